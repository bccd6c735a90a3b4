-- The kept picks of an admin are those of the history.
use Rattle.std.proofs.Common.{◌≡◌, ◌≢◌, ℕ, ◌+◌, ◌-◌, ◌^◌, ◌<◌, List, [], ◌∷◌, ◌++◌, length, Bool, true, false, cond, eqb, Option, Some, None, refl, sym, ap, ◌∙◌, subst, append-nil, arith}
use Rattle.std.specs.Prelude.{◌&&◌, nat_eq, unwrap_or}
use Rattle.std.specs.Cmp.{IsEquivalence}
use Rattle.std.specs.Map.{lookup}
use Rattle.std.specs.Str.{bytes_eq}
use Rattle.std.proofs.lemmas.Bool.Decides.{nat_tests}
use Rattle.std.proofs.lemmas.Cmp.{nat_eq_equiv, nat_list_eq_equiv}
use Rattle.std.proofs.lemmas.List.{length_push}
use Rattle.indexmap.specs.IndexMap.{insert_entry}
use Rattle.job_values.specs.declared.words.PoolKind.{PoolKind}
use Rattle.job_values.specs.declared.choice.Choice.{Choice}
use Rattle.job_values.specs.declared.choice.Choice.TheVariants.{To, Beat, Idle, NoAddress}
use Rattle.job_events.specs.declared.cluster.ClusterEvent.TheVariants.{NodeStop, Take, Reopen}
use Rattle.job_records.specs.declared.log.Log.{Log}
use Rattle.route_strategies.specs.Picks.{PickCounts, IsPicks, no_picks, pick_added}
use Rattle.route_strategies.specs.State.{counts_of, ArePicksOf, with_pick}
use Rattle.route_strategies.proofs.Counts.{picks_push}
use Rattle.cluster_history.specs.History.{History, Begin, After}
use Rattle.cluster_history.specs.Groups.{groups_of}
use Rattle.cluster_history.specs.Orders.{front_of, looks_back, choice_by, choice_of, picked_in, picked_by, picks_of}
use Rattle.cluster_plan.specs.Stands.{with_choice, picked_behind, routes_of}

-- a look-up after one key was written
lookup-written : {K X : Type 0} {eq : K → K → Bool} → IsEquivalence eq → (key other : K) (value : X) (entries : List (K × X)) → lookup (eq other) (insert_entry eq entries key value) ≡ cond (eq key other) (Some value) (lookup (eq other) entries)
lookup-written {K} {X} {eq} laws key other value [] = ap (λ b. cond b (Some value) None) (laws.symm other key)
lookup-written {K} {X} {eq} laws key other value (e ∷ entries) = by (eq key e.0) (eq key other) refl refl (lookup-written laws key other value entries)
  where
    by : (b c : Bool) → eq key e.0 ≡ b → eq key other ≡ c → lookup (eq other) (insert_entry eq entries key value) ≡ cond c (Some value) (lookup (eq other) entries)
        → lookup (eq other) (cond b ((e.0, value) ∷ entries) (e ∷ insert_entry eq entries key value)) ≡ cond c (Some value) (cond (eq other e.0) (Some e.1) (lookup (eq other) entries))
    by true true test is rest =
        let here : eq other e.0 ≡ true = sym (laws.congr key other e.0 is) ∙ test in
        ap (λ b. cond b (Some value) (lookup (eq other) entries)) here
    by true false test is rest =
        let apart : eq other e.0 ≡ false = laws.symm other e.0 ∙ sym (laws.congr key e.0 other test) ∙ is in
        ap (λ b. cond b (Some value) (lookup (eq other) entries)) apart ∙ sym (ap (λ b. cond b (Some e.1) (lookup (eq other) entries)) apart)
    by false true test is rest =
        let apart : eq other e.0 ≡ false = sym (laws.congr key other e.0 is) ∙ test in
        ap (λ b. cond b (Some e.1) (lookup (eq other) (insert_entry eq entries key value))) apart ∙ rest
    by false false test is rest = ap (λ (o : Option X). cond (eq other e.0) (Some e.1) o) rest

bytes_laws : IsEquivalence bytes_eq
bytes_laws = nat_list_eq_equiv

-- these are the picks of a job, as long as their number can be told
abbrev Follows : List (ℕ × PickCounts) → ℕ → List (List ℕ) → Type 0
Follows kept job picks = ((counts_of kept job).number ≡ length picks) × (length picks < 2 ^ 64 → ArePicksOf kept job picks)

follows-none : (job : ℕ) → Follows [] job []
follows-none job = (refl, λ few. record { number = refl; count = λ address. refl; last = λ address. refl })

counts-picked : (kept : List (ℕ × PickCounts)) (job other : ℕ) (address : List ℕ) → counts_of (with_pick kept job address) other ≡ cond (nat_eq job other) (pick_added (counts_of kept job) address) (counts_of kept other)
counts-picked kept job other address =
    ap (λ (o : Option PickCounts). unwrap_or o no_picks) (lookup-written nat_eq_equiv job other (pick_added (counts_of kept job) address) kept) ∙ by (nat_eq job other)
  where
    by : (b : Bool) → unwrap_or (cond b (Some (pick_added (counts_of kept job) address)) (lookup (nat_eq other) kept)) no_picks ≡ cond b (pick_added (counts_of kept job) address) (unwrap_or (lookup (nat_eq other) kept) no_picks)
    by true = refl
    by false = refl

-- one pick more of a job
follows-pick : (kept : List (ℕ × PickCounts)) (job : ℕ) (picks : List (List ℕ)) (address : List ℕ) → Follows kept job picks → Follows (with_pick kept job address) job (picks ++ address ∷ [])
follows-pick kept job picks address before =
    let self : nat_eq job job ≡ true = nat_eq_equiv.refl job in
    let made : counts_of (with_pick kept job address) job ≡ pick_added (counts_of kept job) address =
    counts-picked kept job job address ∙ ap (λ b. cond b (pick_added (counts_of kept job) address) (counts_of kept job)) self in
    let more : length (picks ++ address ∷ []) ≡ length picks + 1 = length_push picks address in (
      ap (λ (c : PickCounts). c.number) made ∙ omega (arith, before.0, more),
      λ few. subst (λ (c : PickCounts). IsPicks c (picks ++ address ∷ [])) (sym made)
          (picks_push (counts_of kept job) (pick_added (counts_of kept job) address) picks address (before.1 (omega (arith, more, few))) (omega (arith, before.0, more, few)) refl
          (λ other. lookup-written bytes_laws address other _ (counts_of kept job).addresses)),
    )

-- and of another job
follows-other : (kept : List (ℕ × PickCounts)) (job other : ℕ) (picks : List (List ℕ)) (address : List ℕ) → nat_eq job other ≡ false → Follows kept other picks → Follows (with_pick kept job address) other picks
follows-other kept job other picks address apart before =
    let same : counts_of (with_pick kept job address) other ≡ counts_of kept other =
    counts-picked kept job other address ∙ ap (λ b. cond b (pick_added (counts_of kept job) address) (counts_of kept other)) apart in (
      ap (λ (c : PickCounts). c.number) same ∙ before.0,
      λ few. subst (λ (c : PickCounts). IsPicks c picks) (sym same) (before.1 few),
    )

follows-same : (kept : List (ℕ × PickCounts)) (job : ℕ) (picks : List (List ℕ)) → Follows kept job picks → Follows kept job (picks ++ [])
follows-same kept job picks before = subst (Follows kept job) (sym (append-nil picks)) before

-- a choice for a job
follows-choice : (kept : List (ℕ × PickCounts)) (job : ℕ) (picks : List (List ℕ)) (choice : Choice) → Follows kept job picks → Follows (with_choice kept job choice) job (picks ++ picked_in choice)
follows-choice kept job picks (To address) before = follows-pick kept job picks address before
follows-choice kept job picks (Beat addresses) before = follows-same kept job picks before
follows-choice kept job picks (Idle addresses) before = follows-same kept job picks before
follows-choice kept job picks NoAddress before = follows-same kept job picks before

-- and for another
follows-chosen : (kept : List (ℕ × PickCounts)) (job other : ℕ) (picks : List (List ℕ)) (choice : Choice) → nat_eq job other ≡ false → Follows kept other picks → Follows (with_choice kept job choice) other picks
follows-chosen kept job other picks (To address) apart before = follows-other kept job other picks address apart before
follows-chosen kept job other picks (Beat addresses) apart before = before
follows-chosen kept job other picks (Idle addresses) apart before = before
follows-chosen kept job other picks NoAddress apart before = before

-- a take of an admin
follows-take : (h : History) (a word job : ℕ) (front : Option Log) → ((other : ℕ) → Follows (routes_of h a) other (picks_of h a other))
    → Follows (picked_behind h a word front (routes_of h a)) job (picked_by front (groups_of h) word job (picks_of h a job))
follows-take h a word job None before = before job
follows-take h a word job (Some log) before = by (looks_back log.route) (eqb job log.job) refl
  where
    by : (l b : Bool) → eqb job log.job ≡ b
        → Follows (cond l (with_choice (routes_of h a) log.job (choice_of h a word log)) (routes_of h a)) job (cond (b && l) (picks_of h a job ++ picked_in (choice_by (groups_of h) word (picks_of h a job) log)) (picks_of h a job))
    by true true test =
        let same : log.job ≡ job = grind (arith, nat_tests) in
        subst (λ j. Follows (with_choice (routes_of h a) log.job (choice_of h a word log)) j (picks_of h a j ++ picked_in (choice_by (groups_of h) word (picks_of h a j) log))) same
        (follows-choice (routes_of h a) log.job (picks_of h a log.job) (choice_of h a word log) (before log.job))
    by true false test =
        let apart : nat_eq log.job job ≡ false = grind (arith, nat_tests) in
        follows-chosen (routes_of h a) log.job job (picks_of h a job) (choice_of h a word log) apart (before job)
    by false true test = before job
    by false false test = before job

follows-taken : (h : History) (a admin word job : ℕ) (pool : PoolKind) → ((other : ℕ) → Follows (routes_of h a) other (picks_of h a other)) → (b : Bool) → eqb a admin ≡ b
    → Follows (cond b (picked_behind h a word (front_of h a pool) (routes_of h a)) (routes_of h a)) job (cond b (picked_by (front_of h admin pool) (groups_of h) word job (picks_of h a job)) (picks_of h a job))
follows-taken h a admin word job pool before true test =
    let same : a ≡ admin = grind (arith, nat_tests) in
    subst (λ n. Follows (picked_behind h a word (front_of h a pool) (routes_of h a)) job (picked_by (front_of h n pool) (groups_of h) word job (picks_of h a job))) same
    (follows-take h a word job (front_of h a pool) before)
follows-taken h a admin word job pool before false test = before job

follows-if : (b : Bool) (kept : List (ℕ × PickCounts)) (job : ℕ) (picks : List (List ℕ)) → Follows kept job picks → Follows (cond b [] kept) job (cond b [] picks)
follows-if true kept job picks before = follows-none job
follows-if false kept job picks before = before

follows : (h : History) (a job : ℕ) → Follows (routes_of h a) job (picks_of h a job)
follows (Begin o) a job = follows-none job
follows (After h (NodeStop admin) r) a job = follows-if (eqb a admin) (routes_of h a) job (picks_of h a job) (follows h a job)
follows (After h Reopen r) a job = follows-none job
follows (After h (Take admin pool at word) r) a job = follows-taken h a admin word job pool (λ other. follows h a other) (eqb a admin) refl
follows (After h _ r) a job = follows h a job

-- the kept number of picks of a job
pub picks-number : (h : History) (a job : ℕ) → (counts_of (routes_of h a) job).number ≡ length (picks_of h a job)
picks-number h a job = (follows h a job).0

-- the kept picks of a job, as long as their number can be told
pub picks-kept : (h : History) (a job : ℕ) → (counts_of (routes_of h a) job).number < 2 ^ 64 → ArePicksOf (routes_of h a) job (picks_of h a job)
picks-kept h a job few = (follows h a job).1 (omega (arith, picks-number h a job, few))
