use Rattle.std.proofs.Common.{◌≡◌, ℕ, length, subst, rules, arith}
use Rattle.std.specs.List.Sorted.{IsSearchInRange}
use Rattle.std.specs.VecDeque.{deque_len}
use Rattle.std.proofs.lemmas.Fn.{always_returns_same}
use Rattle.rising_rows.specs.Seats.{key_order}
use Rattle.rising_rows.proofs.SeatLemmas.{seat-searched, split-rising}
use Rattle.run_queues.proofs.ranked.seat_of.Goals as goal

pub returns : goal.returns
returns g c =
    let rank = g.R.Ranked.rank_of in
    let key = rank c.args.row.now in
    let count : deque_len c.args.rows.now ≡ length c.args.rows.now.items = omega arith in
    let P : ℕ → Type 0 = λ n. IsSearchInRange c.binary_search_by.result n in
    seat-searched (key_order rank key) c.args.rows.now.items c.binary_search_by.result (split-rising rank 0 key c.args.rows.now.items c.requires) (subst P count c.binary_search_by.ensures.bound)
    (c.binary_search_by.ensures.position (key_order rank key) (always_returns_same _ _ _ (λ a r f' called. search rules)))
