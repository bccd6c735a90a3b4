use Rattle.std.proofs.Common.{◌≡◌, ◌++◌, map, take}
use Rattle.std.specs.List.{filter}
use Rattle.registry_beats.specs.Registrations.{is_dead}
use Rattle.registry_beats.specs.Beats.{drop_of}
use Rattle.registry_beats.proofs.sweeps.drop_dead.Given as goal

abbrev pub invariant-loop-row : goal.invariant-loop-row
invariant-loop-row l = l.changes.items ≡ l.fn.changes.items ++ map drop_of (filter (is_dead l.at) (take l.row-index l.rows))
