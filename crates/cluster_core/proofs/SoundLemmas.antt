-- What a change beside the rows keeps sound.
use Rattle.std.proofs.Common.{◌≡◌, ℕ, ◌<◌, ◌≤◌, List, [], ◌∷◌, Bool, true, false, not, cond, eqb, nat_lt, map, filter, length, set, Option, refl, sym, ap, ◌∙◌, subst, ⊎_elim, arith}
use Rattle.std.proofs.lemmas.Bool.{cases_eq, cases_lt}
use Rattle.std.proofs.lemmas.Bool.Decides.{nat_tests}
use Rattle.std.proofs.lemmas.List.{get_or-set_same, get_or-set_other, length-set, get_or_past, length-map, length-append, length-drop}
use Rattle.std.proofs.Math.ListN.{get_or-map}
use Rattle.job_records.specs.Rules.{KeepsRules}
use Rattle.job_records.specs.Tables.{Tables}
use Rattle.job_values.specs.declared.limits.TheConstants.{FAST_LIMIT, SLOW_LIMIT, SLOW_ABOVE}
use Rattle.job_values.specs.declared.words.PoolAnswer.TheVariants.{Fast, Slow, Full}
use Rattle.job_values.specs.declared.words.PoolKind.{PoolKind}
use Rattle.job_values.specs.declared.words.PoolKind.TheVariants.{Fast as FastPool, Slow as SlowPool}
use Rattle.trigger_pool.specs.Pool.{Queues, no_logs, with_log, without_first}
use Rattle.trigger_pool.specs.Reports.{late_count}
use Rattle.cluster_plan.specs.declared.prepared.Entering.{Entering}
use Rattle.cluster_plan.specs.declared.prepared.NodeChange.{NodeChange}
use Rattle.cluster_plan.specs.declared.prepared.NodeChange.TheVariants as node
use Rattle.rising_rows.proofs.PutLemmas.{rises-put}
use Rattle.rising_rows.proofs.RowLemmas.{rises-filter}
use Rattle.job_records.specs.Rows.{RisesFrom}
use Rattle.job_records.specs.Changes.{without}
use Rattle.cluster_history.specs.declared.scan.Scan.{Scan}
use Rattle.cluster_history.specs.declared.taken.TakenLog.{TakenLog}
use Rattle.cluster_history.specs.Orders.{put_taken}
use Rattle.cluster_history.specs.Pages.{unless_owner, stepped}
use Rattle.cluster_plan.specs.Nodes.{NodeKept, idle, node_at, pools_with, entered, started, stopped, after_step, after_ring, after_firing, after_take, after_sending}
use Rattle.cluster_plan.specs.Kept.{Kept, IsSound, IsWithinLimits, pools_at}
use Rattle.cluster_plan.specs.Commits.{node_changed, with_node}

-- a log goes into a pool only below its limit
added-few : (slow slow_room fast_room : Bool) (queues : Queues) (log : ℕ) → (fast_room ≡ true → length queues.fast < FAST_LIMIT) → (slow_room ≡ true → length queues.slow < SLOW_LIMIT) → IsWithinLimits queues
    → IsWithinLimits (with_log queues log (cond slow (cond slow_room Slow Full) (cond fast_room Fast Full)))
added-few false slow_room true queues log room other few = let h : length queues.fast < 1000 = room refl in record { fast = rw length-append (omega arith); slow = few.slow }
added-few false slow_room false queues log room other few = few
added-few true true fast_room queues log other room few = let h : length queues.slow < 2000 = room refl in record { fast = few.fast; slow = rw length-append (omega arith) }
added-few true false fast_room queues log other room few = few

is-below : (n m : ℕ) → nat_lt n m ≡ true → n < m
is-below n m h = grind (arith, nat_tests)

-- no pool gets more logs than it takes
entered-few : (queues : Queues) (logs : List Entering) → IsWithinLimits queues → IsWithinLimits (entered queues logs)
entered-few queues [] few = few
entered-few queues (entering ∷ logs) few =
    entered-few (pools_with queues entering) logs
    (added-few (nat_lt SLOW_ABOVE (late_count queues.counts entering.job)) (nat_lt (length queues.slow) SLOW_LIMIT) (nat_lt (length queues.fast) FAST_LIMIT) queues entering.log (is-below (length queues.fast) FAST_LIMIT) (is-below (length queues.slow) SLOW_LIMIT) few)

none-few : IsWithinLimits no_logs
none-few = record { fast = omega arith; slow = omega arith }

-- the record of one admin is another
limits-set : (nodes : List NodeKept) (place : ℕ) (one : NodeKept) → IsWithinLimits one.pools → ((a : ℕ) → IsWithinLimits (node_at nodes a).pools) → (a : ℕ) → IsWithinLimits (node_at (set nodes place one) a).pools
limits-set nodes place one few limits a =
    let P : NodeKept → Type 0 = λ n. IsWithinLimits n.pools in
    ⊎_elim (λ same.
    ⊎_elim (λ within. subst P (sym (ap (λ n. node_at (set nodes place one) n) same ∙ get_or-set_same nodes place one idle within)) few)
    (λ past. subst P (sym (get_or_past (set nodes place one) a idle (omega (arith, length-set nodes place one)))) none-few)
    (cases_lt place (length nodes)))
    (λ other. subst P (sym (get_or-set_other nodes place a one idle other)) (limits a))
    (cases_eq a place)

-- no admin keeps anything
pub limits-none : (nodes : List NodeKept) (a : ℕ) → IsWithinLimits (node_at (map stopped nodes) a).pools
limits-none nodes a = let P : NodeKept → Type 0 = λ n. IsWithinLimits n.pools in subst P (sym (get_or-map stopped nodes a idle)) none-few

-- a change of one admin that keeps its pools within their limits
sound-node : (kept : Kept) (scan : Option Scan) (taken : List TakenLog) (admin : ℕ) (change : NodeKept → NodeKept) → RisesFrom (λ t. t.log) 0 taken → IsWithinLimits (change (node_at kept.nodes admin)).pools → IsSound kept
    → IsSound (with_node admin change (record kept { scan = scan; taken = taken }))
sound-node kept scan taken admin change rises few sound = record {
  nodes = length-set kept.nodes admin (change (node_at kept.nodes admin)) ∙ sound.nodes;
  rules = sound.rules;
  taken = rises;
  limits = limits-set kept.nodes admin (change (node_at kept.nodes admin)) few sound.limits;
}

-- a pool with a log less
left-few : (queues : Queues) (pool : PoolKind) → IsWithinLimits queues → IsWithinLimits (without_first queues pool)
left-few queues FastPool few = let h : length queues.fast ≤ 1000 = few.fast in record { fast = omega (arith, length-drop 1 queues.fast); slow = few.slow }
left-few queues SlowPool few = let h : length queues.slow ≤ 2000 = few.slow in record { fast = few.fast; slow = omega (arith, length-drop 1 queues.slow) }

-- a log that is taken has an id above 0
abbrev pub HasId : NodeChange → Type 0
HasId (node.Takes admin pool taken pick) = 0 < taken.log
HasId _ = Unit {0}

-- every change beside the rows
pub sound-changed : (kept : Kept) (change : NodeChange) → HasId change → IsSound kept → IsSound (node_changed change kept)
sound-changed kept node.Nothing id sound = sound
sound-changed kept (node.Starts admin) id sound = sound-node kept kept.scan kept.taken admin started sound.taken (sound.limits admin) sound
sound-changed kept (node.Stops admin) id sound =
    sound-node kept (unless_owner admin kept.scan) (filter (λ t. not (eqb t.admin admin)) kept.taken) admin stopped (rises-filter (λ (t : TakenLog). t.log) (λ t. not (eqb t.admin admin)) 0 kept.taken sound.taken) none-few sound
sound-changed kept node.StopsAll id sound = record { nodes = length-map kept.nodes stopped ∙ sound.nodes; rules = sound.rules; taken = tt; limits = limits-none kept.nodes }
sound-changed kept (node.Begins scan) id sound = record { nodes = sound.nodes; rules = sound.rules; taken = sound.taken; limits = sound.limits }
sound-changed kept (node.Steps admin put logs) id sound = sound-node kept (stepped kept.scan) kept.taken admin (after_step put logs) sound.taken (entered-few (pools_at kept admin) logs (sound.limits admin)) sound
sound-changed kept (node.Turns admin second logs) id sound = sound-node kept kept.scan kept.taken admin (after_ring second logs) sound.taken (entered-few (pools_at kept admin) logs (sound.limits admin)) sound
sound-changed kept (node.Fires admin logs) id sound = sound-node kept kept.scan kept.taken admin (after_firing logs) sound.taken (entered-few (pools_at kept admin) logs (sound.limits admin)) sound
sound-changed kept (node.Takes admin pool taken pick) id sound =
    sound-node kept kept.scan (put_taken taken kept.taken) admin (after_take pool pick) (rises-put (λ (t : TakenLog). t.log) 0 taken kept.taken sound.taken id) (left-few (pools_at kept admin) pool (sound.limits admin)) sound
sound-changed kept (node.Sends admin log job start end) id sound =
    let few : IsWithinLimits (pools_at kept admin) = sound.limits admin in
    sound-node kept kept.scan (without (λ t. t.log) log kept.taken) admin (after_sending (record { job = job; start = start; end = end })) (rises-filter (λ (t : TakenLog). t.log) (λ t. not (eqb t.log log)) 0 kept.taken sound.taken)
    (record { fast = few.fast; slow = few.slow }) sound

-- other rows that keep the rules
pub sound-rows : (kept : Kept) (tables : Tables) → KeepsRules tables → IsSound kept → IsSound (record kept { tables = tables })
sound-rows kept tables rules sound = record { nodes = sound.nodes; rules = rules; taken = sound.taken; limits = sound.limits }
