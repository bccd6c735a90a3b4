-- The least of a list as one value.
use Rattle.std.proofs.Common.{◌≡◌, ℕ, zero, suc, ◌+◌, ◌<◌, ◌≤◌, min, Bool, true, false, cond, ltb, leb, List, [], ◌∷◌, length, get_or, refl, ap, ◌∙◌, arith}
use Rattle.std.specs.List.{best_of}
use Rattle.std.proofs.lemmas.Bool.Decides.{nat_tests}
use Rattle.job_values.specs.declared.words.Route.TheVariants.{First, Last, Round, Random, ConsistentHash, LeastFrequentlyUsed, LeastRecentlyUsed, Failover, Busyover, ShardingBroadcast}
use Rattle.job_values.specs.declared.choice.Choice.{Choice}
use Rattle.job_values.specs.declared.choice.Choice.TheVariants.{To, Beat, Idle}
use Rattle.std.specs.Prelude.{nat_lt, if◌then◌else◌, ◌%◌}
use Rattle.route_strategies.specs.Hash.{job_number}
use Rattle.route_strategies.specs.Picks.{pick_count, last_pick}
use Rattle.route_strategies.specs.Chosen.{least_rank, nearest, first_least, last_least, chosen}
use Rattle.route_strategies.specs.Choice.{IsFirstLeast}
use Rattle.route_strategies.specs.Nearest.{rank_at, IsNearestPlace}

-- no place of the list has less, and no later place has as little
pub record IsLastLeast (weight : List ℕ → ℕ) (list : List (List ℕ)) (place : ℕ) : Type 0 where
  pub within : place < length list
  pub least : (p : ℕ) → p < length list → weight (get_or list place []) ≤ weight (get_or list p [])
  pub last : (p : ℕ) → p < length list → place < p → weight (get_or list place []) < weight (get_or list p [])

pub first_least_is : (weight : List ℕ → ℕ) (first : List ℕ) (others : List (List ℕ)) (place : ℕ) → IsFirstLeast weight (first ∷ others) place → get_or (first ∷ others) place [] ≡ first_least weight first others
first_least_is weight first [] place is = at-first place is.within
  where
    at-first : (p : ℕ) → p < 1 → get_or (first ∷ []) p [] ≡ first
    at-first zero h = refl
    at-first (suc p) h = let never : ⊥ = omega arith in absurd never
first_least_is weight first (x ∷ others) place is = by (ltb (weight x) (weight first)) refl place is (λ f p q. first_least_is weight f others p q)
  where
    by : (b : Bool) → ltb (weight x) (weight first) ≡ b → (place : ℕ) → IsFirstLeast weight (first ∷ x ∷ others) place → ((f : List ℕ) (p : ℕ) → IsFirstLeast weight (f ∷ others) p → get_or (f ∷ others) p [] ≡ first_least weight f others) → get_or (first ∷ x ∷ others) place [] ≡ best_of (λ y z. ltb (weight y) (weight z)) (cond b x first) others
    by true test zero is again = let less : weight x < weight first = grind (arith, nat_tests) in let more : weight first ≤ weight x = is.least 1 (omega arith) in let never : ⊥ = omega arith in absurd never
    by true test (suc place) is again =
        again x place (record { within = omega (arith, is.within); least = λ p h. is.least (suc p) (omega arith); first = λ p h. is.first (suc p) (omega arith) })
    by false test zero is again =
        again first 0 (record { within = omega arith; least = λ p h. skip p h; first = λ p h. let never : ⊥ = omega arith in absurd never })
      where
        skip : (p : ℕ) → p < length (first ∷ others) → weight first ≤ weight (get_or (first ∷ others) p [])
        skip zero h = omega arith
        skip (suc p) h = is.least (suc (suc p)) (omega arith)
    by false test (suc zero) is again = let more : weight first ≤ weight x = grind (arith, nat_tests) in let less : weight x < weight first = is.first 0 (omega arith) in let never : ⊥ = omega arith in absurd never
    by false test (suc (suc place)) is again =
        again first (suc place) (record { within = omega (arith, is.within); least = λ p h. skip p h; first = λ p h. skip-first p h })
      where
        skip : (p : ℕ) → p < length (first ∷ others) → weight (get_or others place []) ≤ weight (get_or (first ∷ others) p [])
        skip zero h = is.least 0 (omega arith)
        skip (suc p) h = is.least (suc (suc p)) (omega arith)

        skip-first : (p : ℕ) → p < suc place → weight (get_or others place []) < weight (get_or (first ∷ others) p [])
        skip-first zero h = is.first 0 (omega arith)
        skip-first (suc p) h = is.first (suc (suc p)) (omega arith)

pub last_least_is : (weight : List ℕ → ℕ) (first : List ℕ) (others : List (List ℕ)) (place : ℕ) → IsLastLeast weight (first ∷ others) place → get_or (first ∷ others) place [] ≡ last_least weight first others
last_least_is weight first [] place is = at-first place is.within
  where
    at-first : (p : ℕ) → p < 1 → get_or (first ∷ []) p [] ≡ first
    at-first zero h = refl
    at-first (suc p) h = let never : ⊥ = omega arith in absurd never
last_least_is weight first (x ∷ others) place is = by (leb (weight x) (weight first)) refl place is (λ f p q. last_least_is weight f others p q)
  where
    by : (b : Bool) → leb (weight x) (weight first) ≡ b → (place : ℕ) → IsLastLeast weight (first ∷ x ∷ others) place → ((f : List ℕ) (p : ℕ) → IsLastLeast weight (f ∷ others) p → get_or (f ∷ others) p [] ≡ last_least weight f others) → get_or (first ∷ x ∷ others) place [] ≡ best_of (λ y z. leb (weight y) (weight z)) (cond b x first) others
    by true test zero is again = let less : weight x ≤ weight first = grind (arith, nat_tests) in let more : weight first < weight x = is.last 1 (omega arith) (omega arith) in let never : ⊥ = omega arith in absurd never
    by true test (suc place) is again =
        again x place (record { within = omega (arith, is.within); least = λ p h. is.least (suc p) (omega arith); last = λ p h g. is.last (suc p) (omega arith) (omega arith) })
    by false test zero is again =
        again first 0 (record { within = omega arith; least = λ p h. skip p h; last = λ p h g. skip-last p h g })
      where
        skip : (p : ℕ) → p < length (first ∷ others) → weight first ≤ weight (get_or (first ∷ others) p [])
        skip zero h = omega arith
        skip (suc p) h = is.least (suc (suc p)) (omega arith)

        skip-last : (p : ℕ) → p < length (first ∷ others) → 0 < p → weight first < weight (get_or (first ∷ others) p [])
        skip-last zero h g = let never : ⊥ = omega arith in absurd never
        skip-last (suc p) h g = is.last (suc (suc p)) (omega arith) (omega arith)
    by false test (suc zero) is again = let more : weight first < weight x = grind (arith, nat_tests) in let less : weight x ≤ weight first = is.least 0 (omega arith) in let never : ⊥ = omega arith in absurd never
    by false test (suc (suc place)) is again =
        again first (suc place) (record { within = omega (arith, is.within); least = λ p h. skip p h; last = λ p h g. skip-last p h g })
      where
        skip : (p : ℕ) → p < length (first ∷ others) → weight (get_or others place []) ≤ weight (get_or (first ∷ others) p [])
        skip zero h = is.least 0 (omega arith)
        skip (suc p) h = is.least (suc (suc p)) (omega arith)

        skip-last : (p : ℕ) → p < length (first ∷ others) → suc place < p → weight (get_or others place []) < weight (get_or (first ∷ others) p [])
        skip-last zero h g = let never : ⊥ = omega arith in absurd never
        skip-last (suc p) h g = is.last (suc (suc p)) (omega arith) (omega arith)

-- the least rank of nodes is one of theirs, and none is less
least_rank-least : (bound : ℕ) (address : List ℕ) (n node : ℕ) → node ≤ n → least_rank bound address n ≤ rank_at address bound node
least_rank-least bound address zero zero h = omega arith
least_rank-least bound address zero (suc node) h = let never : ⊥ = omega arith in absurd never
least_rank-least bound address (suc n) node h = by (ltb n node) refl (λ low. least_rank-least bound address n node low)
  where
    by : (b : Bool) → ltb n node ≡ b → (node ≤ n → least_rank bound address n ≤ rank_at address bound node) → min (least_rank bound address n) (rank_at address bound (suc n)) ≤ rank_at address bound node
    by true test rest = let same : node ≡ suc n = (let above : n < node = grind (arith, nat_tests) in omega arith) in let e : rank_at address bound node ≡ rank_at address bound (suc n) = ap (rank_at address bound) same in omega (arith, e)
    by false test rest = let low : node ≤ n = grind (arith, nat_tests) in omega (arith, rest low)

least_rank-is : (bound : ℕ) (address : List ℕ) (n : ℕ) → (node : ℕ) × (node ≤ n) × (least_rank bound address n ≡ rank_at address bound node)
least_rank-is bound address zero = (0, omega arith, refl)
least_rank-is bound address (suc n) = by (leb (least_rank bound address n) (rank_at address bound (suc n))) refl (least_rank-is bound address n)
  where
    by : (b : Bool) → leb (least_rank bound address n) (rank_at address bound (suc n)) ≡ b → (node : ℕ) × (node ≤ n) × (least_rank bound address n ≡ rank_at address bound node)
        → (node : ℕ) × (node ≤ suc n) × (min (least_rank bound address n) (rank_at address bound (suc n)) ≡ rank_at address bound node)
    by true test before = let less : least_rank bound address n ≤ rank_at address bound (suc n) = grind (arith, nat_tests) in let e : min (least_rank bound address n) (rank_at address bound (suc n)) ≡ least_rank bound address n = omega arith in (before.0, omega (arith, before.1), e ∙ before.2)
    by false test before = let less : rank_at address bound (suc n) < least_rank bound address n = grind (arith, nat_tests) in (suc n, omega arith, omega arith)

pub nearest_least : (bound : ℕ) (address : List ℕ) (node : ℕ) → node < 100 → nearest bound address ≤ rank_at address bound node
unfolding nearest
nearest_least bound address node h = least_rank-least bound address 99 node (omega arith)

pub nearest_is : (bound : ℕ) (address : List ℕ) → (node : ℕ) × (node < 100) × (nearest bound address ≡ rank_at address bound node)
unfolding nearest
nearest_is bound address = let found = least_rank-is bound address 99 in (found.0, omega (arith, found.1), found.2)

-- the place of the least node has the least rank
pub nearest_place : (bound place found : ℕ) (list : List (List ℕ)) → IsNearestPlace list bound 100 (length list) place found → IsLastLeast (nearest bound) list place
nearest_place bound place found list is =
    let low : nearest bound (get_or list place []) ≤ found = (let near = nearest_least bound (get_or list place []) is.witness.0 is.witness.1 in omega (arith, is.witness.2)) in
    let high : (p : ℕ) → p < length list → found ≤ nearest bound (get_or list p []) = (λ p h. let near = nearest_is bound (get_or list p []) in omega (arith, near.2, is.least p near.0 h near.1)) in
    record {
      within = is.within;
      least = λ p h. omega (arith, low, high p h);
      last = λ p h g. strict p h g low (high p h) (high place is.within);
    }
  where
    strict : (p : ℕ) → p < length list → place < p → nearest bound (get_or list place []) ≤ found → found ≤ nearest bound (get_or list p []) → found ≤ nearest bound (get_or list place []) → nearest bound (get_or list place []) < nearest bound (get_or list p [])
    strict p h g low high here = by (ltb (nearest bound (get_or list place [])) (nearest bound (get_or list p []))) refl
      where
        by : (b : Bool) → ltb (nearest bound (get_or list place [])) (nearest bound (get_or list p [])) ≡ b → nearest bound (get_or list place []) < nearest bound (get_or list p [])
        by true test = grind (arith, nat_tests)
        by false test =
            let near = nearest_is bound (get_or list p []) in
            let more : nearest bound (get_or list p []) ≤ nearest bound (get_or list place []) = grind (arith, nat_tests) in
            let same : rank_at (get_or list p []) bound near.0 ≡ found = omega (arith, near.2, low, high, here, more) in
            let back : p ≤ place = is.last p near.0 h near.1 same in
            let never : ⊥ = omega arith in absurd never

-- the place of a route, as an address
place_of : (list : List (List ℕ)) (p q : ℕ) → p ≡ q → ◌≡◌ {A = Choice} (To (get_or list p [])) (To (get_or list q []))
place_of list p q e = ap (λ n. To (get_or list n [])) e

pub chosen_first : (list : List (List ℕ)) (job index word : ℕ) (picks : List (List ℕ)) → 0 < length list → ◌≡◌ {A = Choice} (To (get_or list 0 [])) (chosen First job list index word picks)
chosen_first [] job index word picks some = absurd (let never : ⊥ = omega arith in never)
chosen_first (first ∷ others) job index word picks some = refl

pub chosen_last : (list : List (List ℕ)) (job index word place : ℕ) (picks : List (List ℕ)) → 0 < length list → place + 1 ≡ length list → ◌≡◌ {A = Choice} (To (get_or list place [])) (chosen Last job list index word picks)
chosen_last [] job index word place picks some is = absurd (let never : ⊥ = omega arith in never)
chosen_last (first ∷ others) job index word place picks some is = place_of (first ∷ others) place (length others) (omega arith)

pub chosen_round : (list : List (List ℕ)) (job index word place : ℕ) (picks : List (List ℕ)) → 0 < length list → place ≡ length picks % length list → ◌≡◌ {A = Choice} (To (get_or list place [])) (chosen Round job list index word picks)
chosen_round [] job index word place picks some is = absurd (let never : ⊥ = omega arith in never)
chosen_round (first ∷ others) job index word place picks some is = place_of (first ∷ others) place _ is

pub chosen_random : (list : List (List ℕ)) (job index word place : ℕ) (picks : List (List ℕ)) → 0 < length list → place ≡ word % length list → ◌≡◌ {A = Choice} (To (get_or list place [])) (chosen Random job list index word picks)
chosen_random [] job index word place picks some is = absurd (let never : ⊥ = omega arith in never)
chosen_random (first ∷ others) job index word place picks some is = place_of (first ∷ others) place _ is

pub chosen_shard : (list : List (List ℕ)) (job index word place : ℕ) (picks : List (List ℕ)) → 0 < length list → place ≡ (if nat_lt index (length list) then index else 0) → ◌≡◌ {A = Choice} (To (get_or list place [])) (chosen ShardingBroadcast job list index word picks)
chosen_shard [] job index word place picks some is = absurd (let never : ⊥ = omega arith in never)
chosen_shard (first ∷ others) job index word place picks some is = place_of (first ∷ others) place _ is

pub chosen_fewest : (list : List (List ℕ)) (job index word place : ℕ) (picks : List (List ℕ)) → IsFirstLeast (pick_count picks) list place → ◌≡◌ {A = Choice} (To (get_or list place [])) (chosen LeastFrequentlyUsed job list index word picks)
chosen_fewest [] job index word place picks is = let h : place < 0 = is.within in absurd (let never : ⊥ = omega arith in never)
chosen_fewest (first ∷ others) job index word place picks is = ap To (first_least_is (pick_count picks) first others place is)

pub chosen_oldest : (list : List (List ℕ)) (job index word place : ℕ) (picks : List (List ℕ)) → IsFirstLeast (last_pick picks) list place → ◌≡◌ {A = Choice} (To (get_or list place [])) (chosen LeastRecentlyUsed job list index word picks)
chosen_oldest [] job index word place picks is = let h : place < 0 = is.within in absurd (let never : ⊥ = omega arith in never)
chosen_oldest (first ∷ others) job index word place picks is = ap To (first_least_is (last_pick picks) first others place is)

pub chosen_hash : (list : List (List ℕ)) (job index word place : ℕ) (picks : List (List ℕ)) → 0 < length list → ((first : List ℕ) (others : List (List ℕ)) → list ≡ first ∷ others → get_or list place [] ≡ last_least (nearest (job_number job)) first others) → ◌≡◌ {A = Choice} (To (get_or list place [])) (chosen ConsistentHash job list index word picks)
chosen_hash [] job index word place picks some is = absurd (let never : ⊥ = omega arith in never)
chosen_hash (first ∷ others) job index word place picks some is = ap To (is first others refl)

pub chosen_beat : (list : List (List ℕ)) (job index word : ℕ) (picks : List (List ℕ)) → 0 < length list → ◌≡◌ {A = Choice} (Beat list) (chosen Failover job list index word picks)
chosen_beat [] job index word picks some = absurd (let never : ⊥ = omega arith in never)
chosen_beat (first ∷ others) job index word picks some = refl

pub chosen_idle : (list : List (List ℕ)) (job index word : ℕ) (picks : List (List ℕ)) → 0 < length list → ◌≡◌ {A = Choice} (Idle list) (chosen Busyover job list index word picks)
chosen_idle [] job index word picks some = absurd (let never : ⊥ = omega arith in never)
chosen_idle (first ∷ others) job index word picks some = refl
