use Rattle.std.proofs.Common.{sym, ap, ◌∙◌, arith}
use Rattle.turn_lock.proofs.Asked.{may_look}
use Rattle.turn_lock.proofs.shared.Shared.wait_turn.Goals as goal

pub load-served-requires : goal.load-served-requires
load-served-requires g c =
    let i = c.loop.invariant in
    let d = c.requires.drawn in (
      i.0 ∙ c.requires.here ∙ sym c.self.view_is,
      (let w = c.self.invariant.0 in omega arith),
      may_look g.M.Machine.stands (g.M.Machine.opening c.self.inside.table.shared.key.value) _ c.self.invariant.1 _ _ d.0 (ap (λ m. m.1) i.2 ∙ c.requires.idle.0) (ap (λ m. m.0.ticket) i.2 ∙ d.1) (ap (λ m. m.0.holds) i.2 ∙ c.requires.idle.1),
    )
