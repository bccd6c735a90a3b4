-- The logs that an event opens, one after another.
use Rattle.std.specs.Prelude.{◌≡◌, ℕ, ◌+◌, ◌≤◌, nat_lt, List, [], ◌∷◌, ◌++◌, map, length}
use Rattle.job_values.specs.declared.limits.TheConstants.{LAST_LOG_ID, SLOW_ABOVE}
use Rattle.job_events.specs.declared.opened.Opened.{Opened}
use Rattle.job_records.specs.declared.change.Change.{Change}
use Rattle.job_records.specs.declared.change.Change.TheVariants as change
use Rattle.job_records.specs.declared.last_ids.LastIds.{LastIds}
use Rattle.cluster_history.specs.Firings.{Shot}
use Rattle.trigger_pool.specs.Reports.{late_count}
use Rattle.cluster_history.specs.Openings.{Pools, Placed, placed_from, opened_of, log_of, pools_after}
use Rattle.log_opening.specs.declared.new_log.NewLog.{NewLog}
use Rattle.log_opening.specs.declared.opening.Openings.{Openings}
use Rattle.cluster_plan.specs.declared.prepared.Entering.{Entering}

-- a log that is to be opened, as a history has it
abbrev pub shot_in : NewLog → Shot
shot_in new = record {
  row = new.row.now;
  param = new.param.now;
  kind = new.kind;
  time = new.time;
  index = new.index;
  total = new.total;
  retries = new.retries;
}

-- the pools once these logs were opened
abbrev pub pools_then : Openings → Pools
pools_then openings = record {
  fast = openings.fast;
  slow = openings.slow;
  is_slow = λ job. nat_lt SLOW_ABOVE (late_count openings.pools.now.kept.counts job);
}

-- a log that was opened is put among the rows
abbrev pub put_of : Placed → Change
put_of placed = change.PutLog (log_of placed)

-- it goes into the pools of its admin
abbrev pub entering_of : Placed → Entering
entering_of placed = record { log = placed.log; job = placed.shot.row.id }

-- these logs were opened behind those before
pub record OpensBehind (shots : List Shot) (before after : Openings) : Type 0 where
  pub ids : after.last ≡ before.last + length shots
  pub room : after.last ≤ LAST_LOG_ID
  pub puts : after.puts.items ≡ before.puts.items ++ map put_of (placed_from before.last (pools_then before) shots)
  pub entering : after.entering.items ≡ before.entering.items ++ map entering_of (placed_from before.last (pools_then before) shots)
  pub pool : pools_then after ≡ pools_after (pools_then before) shots

-- what a reply tells of these logs, opened from a last id and pools on
abbrev pub told_of : List Shot → Openings → List Opened
told_of shots before = map opened_of (placed_from before.last (pools_then before) shots)

-- the last ids with another last log id
abbrev pub with_last_log : LastIds → ℕ → LastIds
with_last_log last log = record { group = last.group; job = last.job; log = log }

-- the new last log id, and the rows that are put; nothing where no log was opened
abbrev pub opening_changes : LastIds → ℕ → List Change → List Change
opening_changes last log [] = []
opening_changes last log (put ∷ puts) = change.LastIds (with_last_log last log) ∷ put ∷ puts
