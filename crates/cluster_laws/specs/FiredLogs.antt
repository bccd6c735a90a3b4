-- The logs that firings for due times open.
use Rattle.std.specs.Prelude.{◌≡◌, ℕ, List, Option, Some, None}
use Rattle.std.specs.List.{flat_map}
use Rattle.job_values.specs.declared.words.TriggerKind.{TriggerKind}
use Rattle.job_values.specs.declared.words.TriggerKind.TheVariants as kind
use Rattle.job_events.specs.declared.cluster.ClusterEvent.TheVariants.{ScanStep, Turn}
use Rattle.cluster_history.specs.declared.scan.Scan.{Scan}
use Rattle.cluster_history.specs.History.{History}
use Rattle.cluster_history.specs.Groups.{groups_of}
use Rattle.cluster_history.specs.Looks.{Looked, job_with}
use Rattle.cluster_history.specs.Jobs.{jobs_of, scan_of, look_of}
use Rattle.cluster_history.specs.Firings.{Shot, shots_if, kind_of, shots_stepped, shots_turned}
use Rattle.cluster_laws.specs.Dues.{DueFiring, firings_of}

-- one for each shard of the job's row
abbrev pub shots_fired : History → TriggerKind → ℕ → DueFiring → List Shot
shots_fired h why time firing = shots_if (groups_of h) why time (job_with firing.job (jobs_of h))

-- why the firing of a look, if there is one, fires
abbrev pub why_looked : Option Looked → TriggerKind
why_looked None = kind.Cron
why_looked (Some look) = kind_of look.decision.case

-- the moment of a scan, if there is one
abbrev pub moment_in : Option Scan → ℕ
moment_in None = 0
moment_in (Some scan) = scan.at

-- what a step and a turn open is what their firings for due times open, one firing after another
pub record FiringsOpen (h : History) (admin : ℕ) : Type 0 where
  pub step : shots_stepped h ≡ flat_map (shots_fired h (why_looked (look_of h)) (moment_in (scan_of h))) (firings_of h (ScanStep admin))
  pub turn : (at : ℕ) → shots_turned h admin at ≡ flat_map (shots_fired h kind.Cron at) (firings_of h (Turn admin at))

-- so after every history
abbrev pub EachFiringOpens : Type 0
EachFiringOpens = (h : History) (admin : ℕ) → FiringsOpen h admin
