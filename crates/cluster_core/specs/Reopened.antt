-- A cluster that is opened over the rows that another left.
use Rattle.std.specs.Prelude.{◌≡◌}
use Rattle.job_events.specs.declared.cluster.ClusterEvent.TheVariants.{Reopen}
use Rattle.job_records.specs.Tables.{Tables}
use Rattle.cluster_history.specs.declared.settings.Settings.{Settings}
use Rattle.cluster_history.specs.History.{History, After, Opening, accepted, opening_of, settings_of}
use Rattle.cluster_history.specs.Records.{records_of}
use Rattle.cluster_history.specs.Replies.{reply_of}
use Rattle.cluster_history.specs.Runs.{OpensWell, AreWithin, IsAnswered}
use Rattle.cluster_core.specs.Kept.{ClusterState}
use Rattle.cluster_core.specs.Stands.{StandsFor}

-- the opening with these settings and rows
abbrev pub opening_over : Settings → Tables → Opening
opening_over s t = record { settings = s; tables = t }

-- the entries of a history are those of a legal one, and it has these settings and rows
pub record Leaves (h : History) (s : Settings) (t : Tables) : Type 0 where
  pub opens : OpensWell (opening_of h)
  pub within : AreWithin h
  pub answered : IsAnswered h
  pub settings : settings_of h ≡ s
  pub tables : records_of h ≡ t

-- for each history that left these rows, a cluster stands for it with the stop of all behind it
abbrev pub GoesOn : Settings → Tables → ClusterState → Type 0
GoesOn s t state = (h : History) → Leaves (accepted h) s t → StandsFor state (After h Reopen (reply_of h Reopen))
