use Rattle.std.proofs.Common.{◌≡◌, take}
use Rattle.node_plans.specs.Endings.{endings}
use Rattle.node_plans.proofs.endings.end_logs.Given as goal

abbrev pub invariant-loop-id : goal.invariant-loop-id
invariant-loop-id l = l.changes.items ≡ endings l.records.kept.logs (take l.id-index l.id-items)
