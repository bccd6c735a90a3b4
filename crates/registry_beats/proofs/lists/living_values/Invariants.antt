use Rattle.std.proofs.Common.{◌≡◌, map, take}
use Rattle.registry_beats.specs.Registrations.{rows_left}
use Rattle.registry_beats.proofs.lists.living_values.Given as goal

abbrev pub invariant-loop-row : goal.invariant-loop-row
invariant-loop-row l = l.values.items ≡ map (λ row. row.value) (rows_left l.at (take l.row-index l.rows))
