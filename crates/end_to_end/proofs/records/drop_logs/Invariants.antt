use Rattle.std.proofs.Common.{◌≡◌, map, take}
use Rattle.job_records.specs.declared.change.Change.TheVariants.{DropLog}
use Rattle.end_to_end.proofs.records.drop_logs.Given as goal

abbrev pub invariant-loop-id : goal.invariant-loop-id
invariant-loop-id g l = l.drops.items ≡ map DropLog (take l.id-index l.ids)
