-- Firings of several jobs, one after another.
use Rattle.std.specs.Prelude.{◌≡◌, ℕ, ◌+◌, ◌<◌, ◌≤◌, List, [], ◌∷◌, ◌++◌, map, length, Bool, true, false, Option, Some, None}
use Rattle.job_values.specs.declared.limits.TheConstants.{LAST_LOG_ID}
use Rattle.job_values.specs.declared.words.TriggerKind.{TriggerKind}
use Rattle.job_events.specs.declared.opened.Opened.{Opened}
use Rattle.job_records.specs.declared.change.Change.{Change}
use Rattle.job_records.specs.Tables.{Tables}
use Rattle.cluster_plan.specs.declared.prepared.Entering.{Entering}
use Rattle.cluster_history.specs.Firings.{Shot, shots_if}
use Rattle.cluster_history.specs.Looks.{job_with}
use Rattle.cluster_history.specs.Openings.{Pools, placed_from, opened_of, pools_after}
use Rattle.log_opening.specs.declared.opening.Openings.{Openings}
use Rattle.log_opening.specs.Openings.{pools_then, OpensBehind, told_of, put_of, entering_of, opening_changes}

-- how the firings of an event go: the job that each one names, why and when they fire, and what is told of one with its logs
pub record Series (X Y : Type 0) : Type 0 where
  pub job_of : X → ℕ
  pub kind : TriggerKind
  pub time : ℕ
  pub tell : X → List Opened → Y

-- the logs that one of them is to open: those of its job, by the rows; none where the job is gone
abbrev pub shots_at : {X Y : Type 0} → Series X Y → Tables → X → List Shot
shots_at series t x = shots_if t.groups series.kind series.time (job_with (series.job_of x) t.jobs)

-- the same for several, in order
abbrev pub shots_all : {X Y : Type 0} → Series X Y → Tables → List X → List Shot
shots_all series t [] = []
shots_all series t (x ∷ xs) = shots_at series t x ++ shots_all series t xs

-- what is told of them, from a last log id and pools on
abbrev pub told_all : {X Y : Type 0} → Series X Y → Tables → ℕ → Pools → List X → List Y
told_all series t last pools [] = []
told_all series t last pools (x ∷ xs) =
    series.tell x (map opened_of (placed_from last pools (shots_at series t x)))
    ∷ told_all series t (last + length (shots_at series t x)) (pools_after pools (shots_at series t x)) xs

-- the logs of a job were opened, and are told; None where an id would pass its greatest value
abbrev pub OpensJob : List Shot → Openings → Openings → Option (List Opened) → Type 0
OpensJob shots before after None = LAST_LOG_ID < before.last + length shots
OpensJob shots before after (Some opened) = OpensBehind shots before after × (opened ≡ told_of shots before)

-- these fired behind those before: their logs are opened, and each of them is told
pub record FiresBehind {X Y : Type 0} (series : Series X Y) (t : Tables) (xs : List X) (before after : Openings) (told more : List Y) : Type 0 where
  pub opens : OpensBehind (shots_all series t xs) before after
  pub tells : more ≡ told ++ told_all series t before.last (pools_then before) xs

-- false exactly where an id would pass its greatest value
abbrev pub FiresAll : {X Y : Type 0} → Series X Y → Tables → List X → Openings → Openings → List Y → List Y → Bool → Type 0
FiresAll series t xs before after told more false = LAST_LOG_ID < before.last + length (shots_all series t xs)
FiresAll series t xs before after told more true = FiresBehind series t xs before after told more

-- what these change and tell where nothing was opened before, from the last ids and the pools on
pub record FiresSeries {X Y : Type 0} (series : Series X Y) (t : Tables) (pools : Pools) (xs : List X) (changes : List Change) (entering : List Entering) (told : List Y) : Type 0 where
  pub ids : t.last.log + length (shots_all series t xs) ≤ LAST_LOG_ID
  pub rows : changes ≡ opening_changes t.last (t.last.log + length (shots_all series t xs)) (map put_of (placed_from t.last.log pools (shots_all series t xs)))
  pub enters : entering ≡ map entering_of (placed_from t.last.log pools (shots_all series t xs))
  pub tells : told ≡ told_all series t t.last.log pools xs
