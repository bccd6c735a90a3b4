use Rattle.std.proofs.Common.{ap, arith, ◌∷◌, []}
use Rattle.shared_counter.proofs.Deals.{both_done, both_made}
use Rattle.shared_counter.proofs.callers.add_in_two.Goals as goal

pub returns : goal.returns
returns g c =
    let rest = c.in_ok-other.ensures.rest in
    let new = c.in_ok-other.ensures.new in
    let j = c.join.ensures in
    let left = rw c.in_ok-seat.was at c.join-left.ensures.first in
    let right = rw c.in_ok-other-2.was at c.join-left.ensures.second in (
      both_done c.args.seat c.split.new.seat c.in_ok-other.other c.in_ok-seat.seat c.in_ok-other-2.other c.join.new.seat (c.in_ok-seat.first.items ∷ []) (c.in_ok-other-2.second.items ∷ [])
          (ap (λ s. s.shared) rest)
          (ap (λ s. s.opening) rest)
          (let a = ap (λ s. s.parts) rest in let b = ap (λ s. s.parts) new in let e = c.requires.enough in omega arith)
          left.0
          right.0
          j.joined
          j.grows
          j.told,
      both_made c.args.by c.args.acts c.args.seat c.split.new.seat c.in_ok-other.other c.in_ok-seat.seat c.in_ok-other-2.other c.join.new.seat (c.in_ok-seat.first.items ∷ []) (c.in_ok-other-2.second.items ∷ [])
          (ap (λ s. s.opening) rest)
          (ap (λ s. s.opening) new)
          left.0
          right.0
          j.joined
          j.grows
          j.told
          left.1
          right.1,
    )
