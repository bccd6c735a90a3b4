use Rattle.std.proofs.Common.{sym, ◌∙◌, arith}
use Rattle.turn_lock.proofs.Asked.{may_count}
use Rattle.turn_lock.proofs.shared.Shared.count.Goals as goal

pub fetch_add-requires : goal.fetch_add-requires
fetch_add-requires g c = (
  c.requires.here ∙ sym c.self.view_is,
  (let w = c.self.invariant.0 in omega arith),
  may_count g.M.Machine.stands (g.M.Machine.opening c.self.inside.table.shared.key.value) _ c.self.invariant.1 _ _ _ _ c.requires.entry c.requires.holds,
)
