use Rattle.std.proofs.Common.{◌≡◌, Option, None, Some, OnSome, sym, ◌∙◌, arith}
use Rattle.rising_rows.specs.Seats.{key_order}
use Rattle.rising_rows.proofs.SeatLemmas.{filter-found, filter-absent, without-order}
use Rattle.run_queues.proofs.ranked.take.Goals as goal

some_holds : {T : Type 0} (o : Option T) (x : T) (P : Type 0) → o ≡ Some x → OnSome o P → P
some_holds None x P is holds = absurd cc
some_holds (Some y) x P is holds = holds

pub returns-in-Ok-clause-rows : goal.returns-in-Ok-clause-rows
returns-in-Ok-clause-rows g c =
    let seat = rw c.in-Ok.is at c.seat_of.ensures in
    let rank = g.R.Ranked.rank_of in
    let key = rank c.args.row.now in
    some_holds c.remove-taken.result _ _ (c.remove-taken.ensures.succeeds c.args.row.now (omega (arith, seat.0))) c.remove-taken.ensures.items
    ∙ (filter-found (key_order rank key) c.args.rows.now.items c.in-Ok.at seat ∙ without-order rank key c.args.rows.now.items)

pub returns-in_default-clause-rows : goal.returns-in_default-clause-rows
returns-in_default-clause-rows g c =
    let seat = rw c.in_default.is at c.seat_of.ensures in
    let rank = g.R.Ranked.rank_of in
    let key = rank c.args.row.now in
    sym (filter-absent (key_order rank key) c.args.rows.now.items c.in_default.field-0 seat.1) ∙ without-order rank key c.args.rows.now.items
