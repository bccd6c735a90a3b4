-- What a cluster keeps, as contracts see it.
use Rattle.std.specs.Prelude.{◌≡◌, ℕ, ◌≤◌, nat_lt, List, ◌++◌, map, length, Option}
use Rattle.job_records.specs.Tables.{Tables}
use Rattle.job_records.specs.Rules.{KeepsRules}
use Rattle.time_ring.specs.declared.ticket.Ticket.{Ticket}
use Rattle.trigger_pool.specs.Pool.{Queues}
use Rattle.trigger_pool.specs.Reports.{late_count}
use Rattle.cluster_history.specs.Openings.{Pools}
use Rattle.job_values.specs.declared.limits.TheConstants.{ADMINS, FAST_LIMIT, SLOW_LIMIT, SLOW_ABOVE}
use Rattle.cluster_history.specs.declared.settings.Settings.{Settings}
use Rattle.cluster_history.specs.declared.scan.Scan.{Scan}
use Rattle.cluster_history.specs.declared.taken.TakenLog.{TakenLog}
use Rattle.job_records.specs.Rows.{RisesFrom}
use Rattle.cluster_plan.specs.declared.seen.Seen.{Seen}
use Rattle.cluster_plan.specs.Nodes.{NodeKept, node_in, node_at}

-- what a cluster keeps: the settings, the rows, the open scan, the logs that were taken and not sent, and a record for each admin
pub record Kept : Type 0 where
  pub settings : Settings
  pub tables : Tables
  pub scan : Option Scan
  pub taken : List TakenLog
  pub nodes : List NodeKept

-- what is lent of it
abbrev pub kept_in : Seen → Kept
kept_in seen = record {
  settings = seen.settings;
  tables = seen.records.now.kept;
  scan = seen.scan.now;
  taken = seen.taken.now.items;
  nodes = map node_in seen.nodes.now.items;
}

-- the ring of an admin
abbrev pub ring_at : Kept → ℕ → List (List Ticket)
ring_at kept admin = (node_at kept.nodes admin).ring

-- the pools of an admin
abbrev pub pools_at : Kept → ℕ → Queues
pools_at kept admin = (node_at kept.nodes admin).pools

-- the logs of both pools of an admin
abbrev pub logs_in : Queues → List ℕ
logs_in queues = queues.fast ++ queues.slow

-- the pools as an event finds them: how many logs wait in each, and which jobs are slow
abbrev pub pools_in : Queues → Pools
pools_in queues = record {
  fast = length queues.fast;
  slow = length queues.slow;
  is_slow = λ job. nat_lt SLOW_ABOVE (late_count queues.counts job);
}

-- no pool of an admin has more logs than it takes
pub record IsWithinLimits (queues : Queues) : Type 0 where
  pub fast : length queues.fast ≤ FAST_LIMIT
  pub slow : length queues.slow ≤ SLOW_LIMIT

-- each admin has its place, the rows keep their rules, the ids of the taken logs rise, and no pool has more logs than it takes
pub record IsSound (kept : Kept) : Type 0 where
  pub nodes : length kept.nodes ≡ ADMINS
  pub rules : KeepsRules kept.tables
  pub taken : RisesFrom (λ t. t.log) 0 kept.taken
  pub limits : (admin : ℕ) → IsWithinLimits (pools_at kept admin)
