use Rattle.std.proofs.Common.{rules, arith}
use Rattle.std.proofs.lemmas.Fn.{always_returns_same}
use Rattle.rising_rows.specs.Seats.{key_order}
use Rattle.rising_rows.proofs.SeatLemmas.{less-nat, seat-searched, seat-behind, split-rising}
use Rattle.rising_rows.proofs.seats.seat_of.Goals as goal

pub returns-then-key : goal.returns-then-key
returns-then-key g c =
    let key_of = g.R.Keyed.key_of in
    seat-behind (key_order key_of c.args.key) c.args.rows.now c.in-Some.last.now (split-rising key_of 0 c.args.key c.args.rows.now c.requires) c.in-Some.ensures.item.1
    (less-nat (key_of c.in-Some.last.now) c.args.key (omega arith))

pub returns : goal.returns
returns g c =
    let key_of = g.R.Keyed.key_of in
    seat-searched (key_order key_of c.args.key) c.args.rows.now c.binary_search_by.result (split-rising key_of 0 c.args.key c.args.rows.now c.requires) c.binary_search_by.ensures.bound
    (c.binary_search_by.ensures.position (key_order key_of c.args.key) (always_returns_same _ _ _ (λ a r f' called. search rules)))
