-- Runs of events, and what is counted of a history.
use Rattle.std.specs.Prelude.{◌≡◌, ℕ, List, [], ◌∷◌, map, length, sum, count_by, false, ◌<◌, All}
use Rattle.job_values.specs.declared.limits.TheConstants.{ADMINS}
use Rattle.job_events.specs.declared.report.Report.{Report}
use Rattle.job_events.specs.declared.cluster.ClusterEvent.{ClusterEvent}
use Rattle.job_events.specs.declared.cluster.ClusterEvent.TheVariants.{NodeStart}
use Rattle.job_events.specs.declared.cluster.ClusterReply.{ClusterReply}
use Rattle.job_records.specs.Rules.{KeepsRules}
use Rattle.cluster_history.specs.History.{History, Begin, After, Opening, accepted, is_refusal}
use Rattle.cluster_history.specs.Nodes.{admins}
use Rattle.cluster_history.specs.Jobs.{jobs_of}
use Rattle.cluster_history.specs.Tickets.{waiting_at}
use Rattle.cluster_history.specs.Settling.{is_unsent, is_failed, is_settled}
use Rattle.cluster_history.specs.Logs.{logs_of, queued_at}
use Rattle.cluster_history.specs.Replies.{reply_of, reply_after, counted_to}

-- the history with these events behind it, each with its reply
abbrev pub run : History → List ClusterEvent → History
run h [] = h
run h (e ∷ es) = run (After h e (reply_of h e)) es

-- the replies of these events, one after another
abbrev pub replies : History → List ClusterEvent → List ClusterReply
replies h [] = []
replies h (e ∷ es) = reply_of h e ∷ replies (After h e (reply_of h e)) es

-- the rows keep their rules, and no log waits for its trigger code
pub record OpensWell (o : Opening) : Type 0 where
  pub rules : KeepsRules o.tables
  pub sent : All (λ log. is_unsent log ≡ false) o.tables.logs

-- an admin that starts is one of those that there are
abbrev pub IsWithin : ClusterEvent → Type 0
IsWithin (NodeStart admin) = admin < ADMINS
IsWithin _ = Unit {0}

-- so in each of these events
abbrev pub AllWithin : List ClusterEvent → Type 0
AllWithin [] = Unit {0}
AllWithin (e ∷ es) = IsWithin e × AllWithin es

-- so in each entry
abbrev pub AreWithin : History → Type 0
AreWithin (Begin o) = Unit {0}
AreWithin (After h e r) = AreWithin h × IsWithin e

-- the opening is well, only admins start that there are, and each reply is the one that its event has after the entries before it
abbrev pub IsLegal : History → Type 0
IsLegal (Begin o) = OpensWell o
IsLegal (After h e r) = IsLegal h × IsWithin e × (r ≡ reply_of h e)

-- a run of such events goes on as a legal history
abbrev pub RunsAreLegal : Type 0
RunsAreLegal = (h : History) (events : List ClusterEvent) → IsLegal h → AllWithin events → IsLegal (run h events)

-- each entry is accepted, with the reply that its event has after those before it
abbrev pub IsAnswered : History → Type 0
IsAnswered (Begin o) = Unit {0}
IsAnswered (After h e r) = IsAnswered h × (r ≡ reply_after h e) × (is_refusal r ≡ false)

-- the tickets in all rings
abbrev pub waiting_in : History → ℕ
waiting_in h = sum (map (waiting_at h) admins)

-- the logs in all pools
abbrev pub queued_in : History → ℕ
queued_in h = sum (map (λ a. length (queued_at h a)) admins)

-- what is counted after accepted entries
abbrev pub counted : History → Report
counted h = record {
  entries = 0;
  jobs = length (jobs_of h);
  logs = length (logs_of h);
  settled = count_by is_settled (logs_of h);
  failed = count_by is_failed (logs_of h);
  waiting = counted_to (waiting_in h);
  queued = queued_in h;
  held = 0;
}

-- what is counted after a history: the jobs, logs, tickets and pools, without lines and held ids
abbrev pub report_of : History → Report
report_of h = counted (accepted h)
