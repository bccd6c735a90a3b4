use Rattle.std.proofs.Common.{sym, ◌∙◌, arith}
use Rattle.turn_lock.proofs.Asked.{may_draw}
use Rattle.turn_lock.proofs.shared.Shared.enter.Goals as goal

pub fetch_add-ticket-requires : goal.fetch_add-ticket-requires
fetch_add-ticket-requires g c =
    (c.requires.here ∙ sym c.self.view_is, (let w = c.self.invariant.0 in omega arith), may_draw g.M.Machine.stands (g.M.Machine.opening c.self.inside.table.shared.key.value) _ c.self.invariant.1 _ _ c.requires.part c.requires.idle.1 c.requires.idle.2)
