use Rattle.std.proofs.Common.{◌≡◌, ◌++◌, map, take}
use Rattle.job_records.specs.declared.change.Change.TheVariants.{PutGroup}
use Rattle.registry_beats.specs.Registrations.{rows_left}
use Rattle.registry_beats.specs.Beats.{groups_put}
use Rattle.registry_beats.proofs.sweeps.put_groups.Given as goal

abbrev pub invariant-loop-group : goal.invariant-loop-group
invariant-loop-group l = l.changes.items ≡ l.fn.changes.items ++ map PutGroup (groups_put (rows_left l.at l.rows) (take l.group-index l.groups))
