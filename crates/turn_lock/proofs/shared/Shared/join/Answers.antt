use Rattle.std.proofs.Common.{sym, ap, ◌∙◌, arith}
use Rattle.turn_lock.proofs.Meeting.{meets}
use Rattle.turn_lock.proofs.Asked.{may_settle}
use Rattle.turn_lock.proofs.Seated.{joined_seated}
use Rattle.turn_lock.proofs.shared.Shared.join.Goals as goal

pub join_seat-requires : goal.join_seat-requires
join_seat-requires g c =
    let i = c.seat.invariant in
    let j = c.other.invariant in (
      ap (λ s. s.shared) c.seat.view_is ∙ c.requires.here ∙ sym c.self.view_is,
      ap (λ s. s.shared) c.other.view_is ∙ c.requires.other_here ∙ sym c.self.view_is,
      j.idle.0,
      (let w = c.self.invariant.0 in omega arith),
      meets g.M.Machine.stands (g.M.Machine.opening c.self.inside.table.shared.key.value) _ _ _ _
          (let p = i.parts_are in let q = i.some_part in omega arith)
          (let p = j.parts_are in let q = j.some_part in omega arith)
          i.idle.2 j.idle.1 j.idle.2,
    )

pub load-requires : goal.load-requires
load-requires g c = (
  c.join_seat.ensures.0 ∙ ap (λ s. s.shared) c.seat.view_is ∙ c.requires.here ∙ sym c.self.view_is,
  (let w = c.self.invariant.0 in omega arith),
  may_settle g.M.Machine.stands (g.M.Machine.opening c.self.inside.table.shared.key.value) _ c.self.invariant.1 _ _,
)

pub invariant_of-seat : goal.invariant_of-seat
invariant_of-seat g c = joined_seated g.M.Machine.legal _ _ _ _ _ _ c.load.result c.seat.invariant c.other.invariant c.join_seat.ensures.2 c.load.ensures.2

pub returns-clause-legally : goal.returns-clause-legally
returns-clause-legally g c = (joined_seated g.M.Machine.legal _ _ _ _ _ _ c.load.result c.seat.invariant c.other.invariant c.join_seat.ensures.2 c.load.ensures.2).legally
