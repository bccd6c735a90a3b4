-- Lists of a cluster's entries, and for which of them a machine stands.
use Rattle.std.specs.Prelude.{List, map, Option}
use Rattle.job_events.specs.declared.cluster.ClusterEvent.{ClusterEvent}
use Rattle.job_events.specs.declared.cluster.ClusterReply.{ClusterReply}
use Rattle.job_records.specs.Tables.{Tables}
use Rattle.cluster_history.specs.History.{History, Begin, Opening, Entry as HistoryEntry, accepted, after_all}
use Rattle.cluster_history.specs.Records.{records_of}
use Rattle.cluster_history.specs.Runs.{IsLegal}
use Rattle.cluster_core.specs.Kept.{ClusterState}
use Rattle.cluster_core.specs.Stands.{StandsFor}
use Rattle.admin_machine.specs.Views.{Holds}
use Rattle.admin_machine.specs.declared.machine.AdminOpening.{AdminOpening}

-- an event with its reply
abbrev pub Entry : Type 0
Entry = ClusterEvent × ClusterReply

-- the same as an entry of a history
abbrev pub entry_of : Entry → HistoryEntry
entry_of e = record { event = e.0; reply = e.1 }

-- the rows and the last ids of an opening
abbrev pub tables_of : AdminOpening → Tables
tables_of o = record { groups = o.groups; jobs = o.jobs; logs = o.logs; registry = o.registry; last = o.last }

-- the same with its settings, as a history opens
abbrev pub opening_of : AdminOpening → Opening
opening_of o = record { settings = o.settings; tables = tables_of o }

-- the history of an opening and its entries
abbrev pub history_of : AdminOpening → List Entry → History
history_of o log = after_all (Begin (opening_of o)) (map entry_of log)

-- each reply is the defined one
abbrev pub IsLegalList : AdminOpening → List Entry → Type 0
IsLegalList o log = IsLegal (history_of o log)

-- the rows after these entries
abbrev pub rows_of : AdminOpening → List Entry → Tables
rows_of o log = records_of (accepted (history_of o log))

-- the entries are legal, a cluster stands for them, and what its keeper holds is their rows
pub record Stands (held : Option Tables) (o : AdminOpening) (log : List Entry) (state : ClusterState) : Type 0 where
  pub legal : IsLegalList o log
  pub cluster : StandsFor state (history_of o log)
  pub rows : Holds held (rows_of o log)

-- the opening of a cluster that has no entry yet
abbrev pub opening_in : ClusterState → AdminOpening
opening_in state = record {
  settings = state.settings;
  groups = state.records.kept.groups;
  jobs = state.records.kept.jobs;
  logs = state.records.kept.logs;
  registry = state.records.kept.registry;
  last = state.records.kept.last;
}
