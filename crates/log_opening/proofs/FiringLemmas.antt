-- What a firing of an admin makes of the rows and of the pools.
use Rattle.std.proofs.Common.{◌≡◌, ℕ, ◌+◌, ◌<◌, ◌≤◌, List, [], ◌∷◌, ◌++◌, Bool, true, false, cond, eqb, ◌||◌, length, map, All, refl, sym, ap, ◌∙◌, subst, append_assoc, append-nil, length-append, arith}
use Rattle.std.proofs.Common.{pos}
use Rattle.std.specs.List.{list_any}
use Rattle.std.specs.Ordering.{int_eq}
use Rattle.std.proofs.lemmas.List.Elements.{All-cons, All-nil}
use Rattle.job_values.specs.declared.limits.TheConstants.{ADMINS, LAST_LOG_ID}
use Rattle.job_values.specs.declared.words.PoolAnswer.{PoolAnswer}
use Rattle.job_values.specs.declared.words.PoolAnswer.TheVariants.{Fast, Slow, Full}
use Rattle.job_records.specs.declared.change.Change.{Change}
use Rattle.job_records.specs.declared.change.Change.TheVariants.{PutLog}
use Rattle.job_records.specs.declared.last_ids.LastIds.{LastIds}
use Rattle.job_records.specs.declared.log.Log.{Log}
use Rattle.job_records.specs.Rows.{IsRising}
use Rattle.job_records.specs.Rules.{KeepsRules, HasAddress}
use Rattle.job_records.specs.Tables.{Tables}
use Rattle.job_records.specs.Changes.{applied_all, AreAllowed}
use Rattle.job_records.proofs.Keeping.{keeps_last, put_logs_behind, put_logs_allowed}
use Rattle.trigger_pool.specs.Pool.{Queues, with_log}
use Rattle.trigger_pool.specs.Reports.{SlowCounts}
use Rattle.job_values.specs.declared.words.PoolKind.{PoolKind}
use Rattle.job_values.specs.declared.words.PoolKind.TheVariants.{Fast as FastPool, Slow as SlowPool}
use Rattle.cluster_history.specs.History.{History}
use Rattle.cluster_history.specs.Openings.{Pools, Placed, placed_from, pool_of, one_more, log_of, rows_of, added_to}
use Rattle.cluster_history.specs.Logs.{queue_of, sendings_of, last_log, pools_of, placed_at, placed_by}
use Rattle.cluster_history.specs.Firings.{Shot}
use Rattle.cluster_plan.specs.Kept.{Kept, pools_at, pools_in}
use Rattle.cluster_plan.specs.Nodes.{entered}
use Rattle.cluster_plan.specs.Plans.{HasIdsFirst, gives_ids}
use Rattle.log_opening.specs.Openings.{put_of, entering_of, opening_changes, with_last_log}
use Rattle.cluster_plan.specs.Stands.{Stands, counts_of, queues_of}
use Rattle.cluster_history.specs.Records.{records_of}
use Rattle.cluster_plan.proofs.AdminLemmas.{same-admin, other-admin}
use Rattle.cluster_plan.proofs.SentLemmas.{pools-kept}
use Rattle.cluster_plan.proofs.StandsLemmas.{pools-stand}

-- the rows of logs that are opened from a last id on
abbrev pub rows_from : ℕ → Pools → List Shot → List Log
rows_from last pools shots = map log_of (placed_from last pools shots)

puts-are : (last : ℕ) (pools : Pools) (shots : List Shot) → map put_of (placed_from last pools shots) ≡ map PutLog (rows_from last pools shots)
puts-are last pools [] = refl
puts-are last pools (shot ∷ shots) = ap (λ xs. PutLog (log_of (record { shot = shot; log = last + 1; pool = pool_of pools shot })) ∷ xs) (puts-are (last + 1) (one_more (pool_of pools shot) pools) shots)

rows-rise : (last : ℕ) (pools : Pools) (shots : List Shot) → IsRising (λ (l : Log). l.id) last (rows_from last pools shots) (last + length shots)
rows-rise last pools [] = omega arith
rows-rise last pools (shot ∷ shots) =
    let P : ℕ → Type 0 = λ top. IsRising (λ (l : Log). l.id) (last + 1) (rows_from (last + 1) (one_more (pool_of pools shot) pools) shots) top in
    let e : (last + 1) + length shots ≡ last + length (shot ∷ shots) = omega arith in
    (omega arith, subst P e (rows-rise (last + 1) (one_more (pool_of pools shot) pools) shots))

new-address : (shot : Shot) (log : ℕ) (pool : PoolAnswer) → HasAddress (log_of (record { shot = shot; log = log; pool = pool }))
new-address shot log Fast = λ sent. let e : false ≡ true = ap (λ z. int_eq z (pos 200)) sent in let never : ⊥ = cc e in absurd never
new-address shot log Slow = λ sent. let e : false ≡ true = ap (λ z. int_eq z (pos 200)) sent in let never : ⊥ = cc e in absurd never
new-address shot log Full = λ sent. let e : false ≡ true = ap (λ z. int_eq z (pos 200)) sent in let never : ⊥ = cc e in absurd never

rows-address : (last : ℕ) (pools : Pools) (shots : List Shot) → All HasAddress (rows_from last pools shots)
rows-address last pools [] = All-nil HasAddress
rows-address last pools (shot ∷ shots) =
    All-cons HasAddress (log_of (record { shot = shot; log = last + 1; pool = pool_of pools shot })) (rows_from (last + 1) (one_more (pool_of pools shot) pools) shots) (new-address shot (last + 1) (pool_of pools shot)) (rows-address (last + 1) (one_more (pool_of pools shot) pools) shots)

-- the rows and the last ids after a firing
abbrev pub with_logs : Tables → ℕ → List Log → Tables
with_logs t last logs = record { groups = t.groups; jobs = t.jobs; logs = t.logs ++ logs; registry = t.registry; last = with_last_log t.last last }

no-logs : (t : Tables) → t ≡ with_logs t (t.last.log + 0) []
no-logs t =
    let e : t.last.log ≡ t.last.log + 0 = omega arith in
    ap (λ ls. record { groups = t.groups; jobs = t.jobs; logs = ls; registry = t.registry; last = t.last }) (sym (append-nil t.logs))
    ∙ ap (λ n. record { groups = t.groups; jobs = t.jobs; logs = t.logs ++ []; registry = t.registry; last = with_last_log t.last n }) e

-- what the changes of a firing make of the rows
pub fired-rows : (t : Tables) (pools : Pools) (shots : List Shot) → KeepsRules t → t.last.log + length shots ≤ 9223372036854775807
    → applied_all t (opening_changes t.last (t.last.log + length shots) (map put_of (placed_from t.last.log pools shots))) ≡ with_logs t (t.last.log + length shots) (rows_from t.last.log pools shots)
fired-rows t pools [] rules room = no-logs t
fired-rows t pools (shot ∷ shots) rules room =
    let u : Tables = record t { last = with_last_log t.last (t.last.log + length (shot ∷ shots)) } in
    ap (λ cs. applied_all (record t { last = with_last_log t.last (t.last.log + length (shot ∷ shots)) }) cs) (puts-are t.last.log pools (shot ∷ shots))
    ∙ put_logs_behind u t.last.log (t.last.log + length (shot ∷ shots)) (rows_from t.last.log pools (shot ∷ shots)) rules.logs.rising (rows-rise t.last.log pools (shot ∷ shots))

-- and they are allowed
pub fired-allowed : (t : Tables) (pools : Pools) (shots : List Shot) → KeepsRules t → t.last.log + length shots ≤ 9223372036854775807
    → AreAllowed t (opening_changes t.last (t.last.log + length shots) (map put_of (placed_from t.last.log pools shots)))
fired-allowed t pools [] rules room = tt
fired-allowed t pools (shot ∷ shots) rules room =
    let u : Tables = record t { last = with_last_log t.last (t.last.log + length (shot ∷ shots)) } in
    let raised : KeepsRules u = keeps_last t (with_last_log t.last (t.last.log + length (shot ∷ shots))) rules (omega arith) (omega arith) (omega arith) rules.groups.last_id rules.jobs.last_id room in
    let P : List Change → Type 0 = λ cs. AreAllowed u cs in (
      raised,
      subst P (sym (puts-are t.last.log pools (shot ∷ shots)))
          (put_logs_allowed u t.last.log (t.last.log + length (shot ∷ shots)) (rows_from t.last.log pools (shot ∷ shots)) raised rules.logs.rising (rows-rise t.last.log pools (shot ∷ shots)) (omega arith) (rows-address t.last.log pools (shot ∷ shots))),
    )

-- rows that are put give no last ids
puts-give_none : (placed : List Placed) → list_any gives_ids (map put_of placed) ≡ false
puts-give_none [] = refl
puts-give_none (one ∷ placed) = puts-give_none placed

puts-give_none_behind : (placed : List Placed) (change : Change) → gives_ids change ≡ false → list_any gives_ids (map put_of placed ++ change ∷ []) ≡ false
puts-give_none_behind [] change none = ap (λ b. b || false) none
puts-give_none_behind (one ∷ placed) change none = puts-give_none_behind placed change none

opening-ids : (last : LastIds) (log : ℕ) (placed : List Placed) → HasIdsFirst (opening_changes last log (map put_of placed))
opening-ids last log [] = refl
opening-ids last log (one ∷ placed) = puts-give_none (one ∷ placed)

opening-ids_behind : (last : LastIds) (log : ℕ) (placed : List Placed) (change : Change) → gives_ids change ≡ false → HasIdsFirst (opening_changes last log (map put_of placed) ++ change ∷ [])
opening-ids_behind last log [] change none = refl
opening-ids_behind last log (one ∷ placed) change none = puts-give_none_behind (one ∷ placed) change none

-- a firing gives the last ids first, also where a row is put behind
pub fired-ids : (t : Tables) (pools : Pools) (shots : List Shot) → HasIdsFirst (opening_changes t.last (t.last.log + length shots) (map put_of (placed_from t.last.log pools shots)))
fired-ids t pools shots = opening-ids t.last (t.last.log + length shots) (placed_from t.last.log pools shots)

pub fired-ids_behind : (t : Tables) (pools : Pools) (shots : List Shot) (change : Change) → gives_ids change ≡ false → HasIdsFirst (opening_changes t.last (t.last.log + length shots) (map put_of (placed_from t.last.log pools shots)) ++ change ∷ [])
fired-ids_behind t pools shots change none = opening-ids_behind t.last (t.last.log + length shots) (placed_from t.last.log pools shots) change none

-- the queues of an admin with these logs behind their own
abbrev with_placed : Queues → List Placed → Queues
with_placed queues placed = record queues { fast = queues.fast ++ added_to FastPool placed; slow = queues.slow ++ added_to SlowPool placed }

-- one log more, by the pool that it goes to
pools-one_more : (queues : Queues) (log : ℕ) (pool : PoolAnswer) → pools_in (with_log queues log pool) ≡ one_more pool (pools_in queues)
pools-one_more queues log Fast = ap (λ n. record (pools_in queues) { fast = n }) (length-append queues.fast (log ∷ []))
pools-one_more queues log Slow = ap (λ n. record (pools_in queues) { slow = n }) (length-append queues.slow (log ∷ []))
pools-one_more queues log Full = refl

placed-one_more : (queues : Queues) (log : ℕ) (pool : PoolAnswer) (shot : Shot) (placed : List Placed) → with_placed (with_log queues log pool) placed ≡ with_placed queues (record { shot = shot; log = log; pool = pool } ∷ placed)
placed-one_more queues log Fast shot placed = ap (λ fast. record queues { fast = fast; slow = queues.slow ++ added_to SlowPool placed }) (append_assoc queues.fast (log ∷ []) (added_to FastPool placed))
placed-one_more queues log Slow shot placed = ap (λ slow. record queues { fast = queues.fast ++ added_to FastPool placed; slow = slow }) (append_assoc queues.slow (log ∷ []) (added_to SlowPool placed))
placed-one_more queues log Full shot placed = refl

-- the logs of a firing enter the pools that they are put in
pub entered-placed : (queues : Queues) (last : ℕ) (shots : List Shot) → entered queues (map entering_of (placed_from last (pools_in queues) shots)) ≡ with_placed queues (placed_from last (pools_in queues) shots)
entered-placed queues last [] = ap (λ fast. record queues { fast = fast; slow = queues.slow }) (sym (append-nil queues.fast)) ∙ ap (λ slow. record queues { fast = queues.fast ++ []; slow = slow }) (sym (append-nil queues.slow))
entered-placed queues last (shot ∷ shots) =
    let pool : PoolAnswer = pool_of (pools_in queues) shot in
    let more : Queues = with_log queues (last + 1) pool in
    let seen : pools_in more ≡ one_more pool (pools_in queues) = pools-one_more queues (last + 1) pool in
    ap (λ ps. entered more (map entering_of (placed_from (last + 1) ps shots))) (sym seen)
    ∙ entered-placed more (last + 1) shots
    ∙ ap (λ ps. with_placed more (placed_from (last + 1) ps shots)) seen
    ∙ placed-one_more queues (last + 1) pool shot (placed_from (last + 1) (one_more pool (pools_in queues)) shots)

-- the pools of an admin, as they are kept and as the history has them
pub pools-seen : (kept : Kept) (h : History) (admin : ℕ) → admin < ADMINS → Stands kept h → pools_in (pools_at kept admin) ≡ pools_of h admin
pools-seen kept h admin below s = ap pools_in (pools-stand kept h admin below s) ∙ pools-kept h admin

-- the queues of an admin after a firing, by whether it is that of this admin
abbrev queues_by : Bool → (PoolKind → List ℕ) → SlowCounts → List Placed → Queues
queues_by b queue counts placed = record {
  fast = cond b (queue FastPool ++ added_to FastPool placed) (queue FastPool);
  slow = cond b (queue SlowPool ++ added_to SlowPool placed) (queue SlowPool);
  counts = counts;
}

abbrev pub queues_opened : History → ℕ → List Shot → ℕ → Queues
queues_opened h admin shots a = queues_by (eqb a admin) (queue_of h a) (counts_of h a) (placed_by (last_log h) (queue_of h a) (sendings_of h a) shots)

-- the pools of an admin after its firing
pools-fired : (h : History) (admin : ℕ) (shots : List Shot) → entered (queues_of h admin) (map entering_of (placed_at h admin shots)) ≡ queues_opened h admin shots admin
pools-fired h admin shots =
    ap (λ ps. entered (queues_of h admin) (map entering_of (placed_from (last_log h) ps shots))) (sym (pools-kept h admin))
    ∙ entered-placed (queues_of h admin) (last_log h) shots
    ∙ ap (λ ps. with_placed (queues_of h admin) (placed_from (last_log h) ps shots)) (pools-kept h admin)
    ∙ ap (λ b. queues_by b (queue_of h admin) (counts_of h admin) (placed_at h admin shots)) (sym (same-admin admin))

-- and those of another
pub pools-left : (h : History) (admin a : ℕ) (shots : List Shot) → (a ≡ admin → ⊥) → queues_of h a ≡ queues_opened h admin shots a
pools-left h admin a shots other =
    ap (λ b. queues_by b (queue_of h a) (counts_of h a) (placed_by (last_log h) (queue_of h a) (sendings_of h a) shots)) (sym (other-admin a admin other))

-- what the changes of a firing are, by what is kept
abbrev pub fired_changes : Kept → Pools → List Shot → List Change
fired_changes kept pools shots = opening_changes kept.tables.last (kept.tables.last.log + length shots) (map put_of (placed_from kept.tables.last.log pools shots))

-- the rows after a firing
pub fired-tables : (kept : Kept) (h : History) (admin : ℕ) (pools : Pools) (shots : List Shot) → admin < ADMINS → pools ≡ pools_in (pools_at kept admin) → KeepsRules kept.tables → kept.tables.last.log + length shots ≤ LAST_LOG_ID → Stands kept h
    → applied_all kept.tables (fired_changes kept pools shots) ≡ with_logs (records_of h) (last_log h + length shots) (rows_of (placed_at h admin shots))
fired-tables kept h admin pools shots below here rules room s =
    fired-rows kept.tables pools shots rules room
    ∙ ap (λ (t : Tables). with_logs t (t.last.log + length shots) (rows_from t.last.log pools shots)) s.keeps.tables
    ∙ ap (λ ps. with_logs (records_of h) (last_log h + length shots) (rows_from (last_log h) ps shots)) (here ∙ pools-seen kept h admin below s)

-- the pools of an admin after its firing, by what is kept
pub pools-fired_by : (kept : Kept) (h : History) (admin : ℕ) (pools : Pools) (shots : List Shot) → admin < ADMINS → pools ≡ pools_in (pools_at kept admin) → Stands kept h
    → entered (queues_of h admin) (map entering_of (placed_from kept.tables.last.log pools shots)) ≡ queues_opened h admin shots admin
pools-fired_by kept h admin pools shots below here s =
    ap (λ ps. entered (queues_of h admin) (map entering_of (placed_from kept.tables.last.log ps shots))) (here ∙ pools-seen kept h admin below s)
    ∙ ap (λ (t : Tables). entered (queues_of h admin) (map entering_of (placed_from t.last.log (pools_of h admin) shots))) s.keeps.tables
    ∙ pools-fired h admin shots
