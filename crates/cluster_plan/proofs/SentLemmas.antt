-- The kept counts of an admin are those of its sendings.
use Rattle.std.proofs.Common.{◌≡◌, ℕ, ◌-◌, ◌^◌, ◌<◌, ◌≤◌, min, List, [], Bool, true, false, cond, eqb, Option, Some, None, refl, arith}
use Rattle.std.specs.Prelude.{nat_lt}
use Rattle.std.proofs.lemmas.Bool.Decides.{nat_tests}
use Rattle.job_values.specs.declared.limits.TheConstants.{SLOW_ABOVE}
use Rattle.job_events.specs.declared.cluster.ClusterEvent.TheVariants.{NodeStop, Sent, Reopen}
use Rattle.job_records.specs.declared.log.Log.{Log}
use Rattle.trigger_pool.specs.Reports.{Sending, SlowCounts, no_counts, late_count, slow_count, IsTally}
use Rattle.trigger_pool.proofs.Tally.{tally_with}
use Rattle.cluster_history.specs.History.{History, Begin, After}
use Rattle.cluster_history.specs.Openings.{Pools}
use Rattle.cluster_history.specs.Settling.{log_with}
use Rattle.cluster_history.specs.Logs.{logs_of, opener_of, is_own, queue_of, sending_behind, sendings_of, pools_of}
use Rattle.job_values.specs.declared.words.PoolKind.TheVariants.{Fast as FastPool, Slow as SlowPool}
use Rattle.std.specs.Prelude.{length}
use Rattle.cluster_plan.specs.Kept.{pools_in}
use Rattle.cluster_plan.specs.Stands.{counted_behind, counts_of, queues_of}

-- nothing was sent
tally-none : IsTally no_counts []
tally-none = record { minute = refl; late = λ job. refl }

tally-if : (b : Bool) (counts : SlowCounts) (sendings : List Sending) → IsTally counts sendings → IsTally (cond b no_counts counts) (cond b [] sendings)
tally-if true counts sendings tally = tally-none
tally-if false counts sendings tally = tally

-- one more sending, if the log is the admin's own
tally-behind : (own : Bool) (log : Option Log) (start end : ℕ) (counts : SlowCounts) (sendings : List Sending) → IsTally counts sendings → IsTally (counted_behind own log start end counts) (sending_behind own log start end sendings)
tally-behind true (Some log) start end counts sendings tally = tally_with counts sendings (record { job = log.job; start = start; end = end }) tally
tally-behind true None start end counts sendings tally = tally
tally-behind false log start end counts sendings tally = tally

pub tally-kept : (h : History) (a : ℕ) → IsTally (counts_of h a) (sendings_of h a)
tally-kept (Begin o) a = tally-none
tally-kept (After h (NodeStop admin) r) a = tally-if (eqb a admin) (counts_of h a) (sendings_of h a) (tally-kept h a)
tally-kept (After h Reopen r) a = tally-none
tally-kept (After h (Sent log address code start end) r) a =
    tally-behind (is_own (opener_of h log) a) (log_with log (logs_of h)) start end (counts_of h a) (sendings_of h a) (tally-kept h a)
tally-kept (After h _ r) a = tally-kept h a

-- a kept count is above ten where that of the sendings is
above-same : (kept slow : ℕ) → kept ≡ min slow (2 ^ 64 - 1) → nat_lt SLOW_ABOVE kept ≡ nat_lt SLOW_ABOVE slow
above-same kept slow is = by (nat_lt SLOW_ABOVE kept) (nat_lt SLOW_ABOVE slow) refl refl
  where
    by : (b c : Bool) → nat_lt SLOW_ABOVE kept ≡ b → nat_lt SLOW_ABOVE slow ≡ c → b ≡ c
    by true true p q = refl
    by false false p q = refl
    by true false p q =
        let above : SLOW_ABOVE < kept = grind (arith, nat_tests) in
        let below : slow ≤ SLOW_ABOVE = grind (arith, nat_tests) in
        let never : ⊥ = omega (arith, is) in absurd never
    by false true p q =
        let below : kept ≤ SLOW_ABOVE = grind (arith, nat_tests) in
        let above : SLOW_ABOVE < slow = grind (arith, nat_tests) in
        let never : ⊥ = omega (arith, is) in absurd never

-- the pools of an admin, as they are kept and as the history has them
pub pools-kept : (h : History) (admin : ℕ) → pools_in (queues_of h admin) ≡ pools_of h admin
pools-kept h admin =
    let same : (job : ℕ) → nat_lt SLOW_ABOVE (late_count (counts_of h admin) job) ≡ nat_lt SLOW_ABOVE (slow_count (sendings_of h admin) job) =
    λ job. above-same (late_count (counts_of h admin) job) (slow_count (sendings_of h admin) job) ((tally-kept h admin).late job) in
    λ i. record { fast = length (queue_of h admin FastPool); slow = length (queue_of h admin SlowPool); is_slow = λ job. same job i }
