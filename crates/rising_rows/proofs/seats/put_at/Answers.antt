use Rattle.std.proofs.Common.{◌∙◌, ap, cond}
use Rattle.std.specs.List.{insert}
use Rattle.std.specs.Result.{is_ok}
use Rattle.rising_rows.proofs.SeatLemmas.{put-found, put-between}
use Rattle.rising_rows.proofs.seats.put_at.Goals as goal

pub returns-in-Ok-clause-rows : goal.returns-in-Ok-clause-rows
returns-in-Ok-clause-rows g c order seat =
    put-found order c.args.row c.args.rows.now.items c.in-Ok.at (rw c.in-Ok.is at seat)

pub returns-in-Err-clause-rows : goal.returns-in-Err-clause-rows
returns-in-Err-clause-rows g c order seat =
    c.insert.ensures.items ∙ ap (λ b. cond b (insert c.args.rows.now.items c.in-Err.at c.args.row) c.args.rows.now.items) (ap is_ok c.unwrap.ensures) ∙ put-between order c.args.row c.args.rows.now.items c.in-Err.at (rw c.in-Err.is at seat)
