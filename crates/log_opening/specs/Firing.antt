-- One firing of a job.
use Rattle.std.specs.Prelude.{◌≡◌, ◌+◌, ◌<◌, ◌≤◌, List, [], map, length, Option, Some, None}
use Rattle.job_values.specs.declared.limits.TheConstants.{LAST_LOG_ID}
use Rattle.job_records.specs.declared.last_ids.LastIds.{LastIds}
use Rattle.cluster_history.specs.Firings.{Shot}
use Rattle.cluster_history.specs.Openings.{Pools, placed_from, opened_of}
use Rattle.log_opening.specs.declared.firing.Fired.{Fired}
use Rattle.log_opening.specs.Openings.{put_of, entering_of, opening_changes}

-- these logs are opened, from the last ids and the pools on
pub record Fires (last : LastIds) (pools : Pools) (shots : List Shot) (fired : Fired) : Type 0 where
  pub ids : last.log + length shots ≤ LAST_LOG_ID
  pub changes : fired.changes.items ≡ opening_changes last (last.log + length shots) (map put_of (placed_from last.log pools shots))
  pub entering : fired.entering.items ≡ map entering_of (placed_from last.log pools shots)
  pub opened : fired.opened ≡ map opened_of (placed_from last.log pools shots)

-- None exactly where an id would pass its greatest value
abbrev pub FiresAs : LastIds → Pools → List Shot → Option Fired → Type 0
FiresAs last pools shots None = LAST_LOG_ID < last.log + length shots
FiresAs last pools shots (Some fired) = Fires last pools shots fired

-- no log is opened
abbrev pub FiresNothing : LastIds → Fired → Type 0
FiresNothing last fired = (pools : Pools) → Fires last pools [] fired
