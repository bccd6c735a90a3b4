-- What the stop of an admin ends, and what an opening ends.
use Rattle.std.specs.Prelude.{ℕ, ◌==◌, List, [], ◌∷◌, ◌++◌, map, filter, sum_by, Option, Some, None, if◌then◌else◌}
use Rattle.std.specs.List.{list_any, concat}
use Rattle.job_records.specs.declared.change.Change.{Change}
use Rattle.job_records.specs.declared.change.Change.TheVariants.{PutLog}
use Rattle.job_records.specs.declared.log.Log.{Log}
use Rattle.time_ring.specs.Ring.{ticket_count}
use Rattle.job_records.specs.Tables.{Tables}
use Rattle.cluster_history.specs.Settling.{is_unsent, ended_log, ended_where, log_with}
use Rattle.cluster_history.specs.declared.taken.TakenLog.{TakenLog}
use Rattle.cluster_plan.specs.Nodes.{NodeKept}
use Rattle.cluster_plan.specs.Kept.{Kept, logs_in, pools_at}

-- the ids of the logs that an admin took and that were not sent
abbrev pub taken_in : List TakenLog → ℕ → List ℕ
taken_in taken admin = map (λ t. t.log) (filter (λ t. t.admin == admin) taken)

-- the ids of the logs that an admin has: in its pools, and taken
abbrev pub held_in : Kept → ℕ → List ℕ
held_in kept admin = logs_in (pools_at kept admin) ++ taken_in kept.taken admin

-- the ids of the logs that any admin has: in all pools, and taken
abbrev pub all_held : Kept → List ℕ
all_held kept = concat (map (λ one. logs_in one.pools) kept.nodes) ++ map (λ t. t.log) kept.taken

-- the change that ends a log, if it is there
abbrev pub ending_of : Option Log → List Change
ending_of None = []
ending_of (Some log) = PutLog (ended_log log) ∷ []

-- the changes that end the logs with these ids
abbrev pub endings : List Log → List ℕ → List Change
endings logs [] = []
endings logs (id ∷ ids) = ending_of (log_with id logs) ++ endings logs ids

-- the logs, with those that have these ids ended
abbrev pub ended_in : List ℕ → List Log → List Log
ended_in ids logs = map (λ log. if list_any (λ id. id == log.id) ids then ended_log log else log) logs

-- the tickets of an admin, if it runs
abbrev pub lost_in : NodeKept → ℕ
lost_in one = if one.running then ticket_count one.ring else 0

-- the tickets of all admins that run
abbrev pub lost_of : List NodeKept → ℕ
lost_of nodes = sum_by lost_in nodes

-- the changes that end each log without a trigger code, in order of the ids
abbrev pub unsent_endings : List Log → List Change
unsent_endings logs = map (λ log. PutLog (ended_log log)) (filter is_unsent logs)

-- the tables, with each log ended that has no trigger code
abbrev pub unsent_ended : Tables → Tables
unsent_ended t = record t { logs = ended_where is_unsent t.logs }
