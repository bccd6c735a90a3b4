-- The children that a result fires.
use Rattle.std.specs.Prelude.{ℕ, ◌+◌, ◌<◌, List, length, Option, Some, None}
use Rattle.job_values.specs.declared.limits.TheConstants.{LAST_LOG_ID}
use Rattle.job_values.specs.declared.words.TriggerKind.TheVariants as kind
use Rattle.job_events.specs.declared.opened.FiredChild.{FiredChild}
use Rattle.job_records.specs.Tables.{Tables}
use Rattle.cluster_history.specs.Openings.{Pools}
use Rattle.log_opening.specs.Series.{Series, shots_all, FiresSeries}
use Rattle.settle_plans.specs.declared.children.FiredChildren.{FiredChildren}

-- children fire at the moment of their parent's result, and each is told by its id
abbrev pub children_at : ℕ → Series ℕ FiredChild
children_at at = record {
  job_of = λ id. id;
  kind = kind.Parent;
  time = at;
  tell = λ id opened. record { job = id; opened = opened };
}

-- what children change and tell, from the rows and the pools on; None exactly where an id would pass its greatest value
abbrev pub FiresChildren : Tables → Pools → ℕ → List ℕ → Option FiredChildren → Type 0
FiresChildren t pools at ids None = LAST_LOG_ID < t.last.log + length (shots_all (children_at at) t ids)
FiresChildren t pools at ids (Some fired) = FiresSeries (children_at at) t pools ids fired.changes.items fired.entering.items fired.children.items
