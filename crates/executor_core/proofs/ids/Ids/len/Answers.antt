use Rattle.std.proofs.Common.{[], arith}
use Rattle.executor_core.proofs.IdKeys.{keys-len}
use Rattle.executor_core.proofs.ids.Ids.len.Goals as goal

pub returns : goal.returns
returns c = rw (← c.self.view_is) (omega (arith, c.len.ensures.len, keys-len c.self.inside.ids.keys []))
