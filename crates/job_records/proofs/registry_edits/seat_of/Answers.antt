use Rattle.std.proofs.Common.{rules}
use Rattle.std.proofs.lemmas.Fn.{always_returns_same}
use Rattle.rising_rows.proofs.SeatLemmas.{seat-searched}
use Rattle.job_records.specs.Order.{key_order}
use Rattle.job_records.proofs.OrderLemmas.{split-by_key}
use Rattle.job_records.proofs.registry_edits.seat_of.Goals as goal

pub returns : goal.returns
returns c =
    let order = key_order c.args.key.now c.args.value.now in
    seat-searched order c.args.rows.now c.binary_search_by.result (split-by_key c.args.key.now c.args.value.now c.args.rows.now c.requires) c.binary_search_by.ensures.bound
    (c.binary_search_by.ensures.position order (always_returns_same _ _ _ (λ a r f' called. search rules)))
