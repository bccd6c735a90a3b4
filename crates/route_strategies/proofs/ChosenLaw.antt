-- What a route chooses is a choice as the routes are said.
use Rattle.std.proofs.Common.{◌≡◌, ℕ, zero, suc, ◌+◌, ◌^◌, ◌<◌, ◌≤◌, Bool, true, false, ltb, leb, List, [], ◌∷◌, length, get_or, refl, ap, ◌∙◌, sym, arith, cond, inl, inr}
use Rattle.std.proofs.lemmas.Bool.Decides.{nat_tests}
use Rattle.std.proofs.Math.Nat.{mod-lt}
use Rattle.std.specs.Prelude.{nat_lt, if◌then◌else◌}
use Rattle.std.specs.Int.{w32, from_le_bytes, to_le_bytes, byte_at}
use Rattle.md5.specs.Md5.{md5, digest_bytes}
use Rattle.job_values.specs.declared.words.Route.{Route}
use Rattle.job_values.specs.declared.words.Route.TheVariants.{First, Last, Round, Random, ConsistentHash, LeastFrequentlyUsed, LeastRecentlyUsed, Failover, Busyover, ShardingBroadcast}
use Rattle.job_values.specs.declared.choice.Choice.TheVariants.{To}
use Rattle.route_strategies.specs.Chosen.{nearest, first_least, last_least, chosen_from, chosen}
use Rattle.route_strategies.specs.Choice.{IsFirstLeast, GivesPlace, IsRouted, IsChoice}
use Rattle.route_strategies.specs.Hash.{text_number, node_text, job_number, node_number, AllNodesBelow, IsHashPlace}
use Rattle.route_strategies.specs.Nearest.{rank, rank_at}
use Rattle.route_strategies.specs.Picks.{pick_count, last_pick}
use Rattle.route_strategies.proofs.ChosenLemmas.{IsLastLeast, first_least_is, last_least_is, nearest_least, nearest_is}

byte_small : (i n : ℕ) → byte_at i n < 256
byte_small zero n = mod-lt n (omega arith)
byte_small (suc i) n = mod-lt _ (omega arith)

word_small : (n : ℕ) → from_le_bytes w32 (to_le_bytes w32 n) < 2 ^ 32
word_small n = omega (arith, byte_small 0 n, byte_small 1 n, byte_small 2 n, byte_small 3 n)

-- the number of a text is one of 32 bits
text_small : (text : List ℕ) → text_number text < 2 ^ 32
unfolding text_number md5 digest_bytes
text_small text = word_small _

-- a list that is not empty has a first place of the least weight
first_place : (weight : List ℕ → ℕ) (first : List ℕ) (others : List (List ℕ)) → (place : ℕ) × IsFirstLeast weight (first ∷ others) place
first_place weight first [] = (0, record { within = omega arith; least = at-first; first = λ p h. let never : ⊥ = omega arith in absurd never })
  where
    at-first : (p : ℕ) → p < 1 → weight first ≤ weight (get_or (first ∷ []) p [])
    at-first zero h = omega arith
    at-first (suc p) h = let never : ⊥ = omega arith in absurd never
first_place weight first (x ∷ others) = by (first_place weight x others)
  where
    by : (place : ℕ) × IsFirstLeast weight (x ∷ others) place → (place : ℕ) × IsFirstLeast weight (first ∷ x ∷ others) place
    by (place, is) = test (leb (weight first) (weight (get_or (x ∷ others) place []))) refl
      where
        test : (b : Bool) → leb (weight first) (weight (get_or (x ∷ others) place [])) ≡ b → (p : ℕ) × IsFirstLeast weight (first ∷ x ∷ others) p
        test true is-less =
            let low : weight first ≤ weight (get_or (x ∷ others) place []) = grind (arith, nat_tests) in
            (0, record { within = omega arith; least = from-first low; first = λ p h. let never : ⊥ = omega arith in absurd never })
          where
            from-first : weight first ≤ weight (get_or (x ∷ others) place []) → (p : ℕ) → p < length (first ∷ x ∷ others) → weight first ≤ weight (get_or (first ∷ x ∷ others) p [])
            from-first low zero h = omega arith
            from-first low (suc p) h = omega (arith, low, is.least p (omega arith))
        test false is-less =
            let high : weight (get_or (x ∷ others) place []) < weight first = grind (arith, nat_tests) in
            (suc place, record { within = omega (arith, is.within); least = from-rest high; first = before high })
          where
            from-rest : weight (get_or (x ∷ others) place []) < weight first → (p : ℕ) → p < length (first ∷ x ∷ others) → weight (get_or (x ∷ others) place []) ≤ weight (get_or (first ∷ x ∷ others) p [])
            from-rest high zero h = omega (arith, high)
            from-rest high (suc p) h = is.least p (omega arith)

            before : weight (get_or (x ∷ others) place []) < weight first → (p : ℕ) → p < suc place → weight (get_or (x ∷ others) place []) < weight (get_or (first ∷ x ∷ others) p [])
            before high zero h = high
            before high (suc p) h = is.first p (omega arith)

-- and a last one
last_place : (weight : List ℕ → ℕ) (first : List ℕ) (others : List (List ℕ)) → (place : ℕ) × IsLastLeast weight (first ∷ others) place
last_place weight first [] = (0, record { within = omega arith; least = at-first; last = λ p h g. let never : ⊥ = omega arith in absurd never })
  where
    at-first : (p : ℕ) → p < 1 → weight first ≤ weight (get_or (first ∷ []) p [])
    at-first zero h = omega arith
    at-first (suc p) h = let never : ⊥ = omega arith in absurd never
last_place weight first (x ∷ others) = by (last_place weight x others)
  where
    by : (place : ℕ) × IsLastLeast weight (x ∷ others) place → (place : ℕ) × IsLastLeast weight (first ∷ x ∷ others) place
    by (place, is) = test (ltb (weight first) (weight (get_or (x ∷ others) place []))) refl
      where
        test : (b : Bool) → ltb (weight first) (weight (get_or (x ∷ others) place [])) ≡ b → (p : ℕ) × IsLastLeast weight (first ∷ x ∷ others) p
        test true is-less =
            let low : weight first < weight (get_or (x ∷ others) place []) = grind (arith, nat_tests) in
            (0, record { within = omega arith; least = from-first low; last = behind low })
          where
            from-first : weight first < weight (get_or (x ∷ others) place []) → (p : ℕ) → p < length (first ∷ x ∷ others) → weight first ≤ weight (get_or (first ∷ x ∷ others) p [])
            from-first low zero h = omega arith
            from-first low (suc p) h = omega (arith, low, is.least p (omega arith))

            behind : weight first < weight (get_or (x ∷ others) place []) → (p : ℕ) → p < length (first ∷ x ∷ others) → 0 < p → weight first < weight (get_or (first ∷ x ∷ others) p [])
            behind low zero h g = let never : ⊥ = omega arith in absurd never
            behind low (suc p) h g = omega (arith, low, is.least p (omega arith))
        test false is-less =
            let high : weight (get_or (x ∷ others) place []) ≤ weight first = grind (arith, nat_tests) in
            (suc place, record { within = omega (arith, is.within); least = from-rest high; last = behind })
          where
            from-rest : weight (get_or (x ∷ others) place []) ≤ weight first → (p : ℕ) → p < length (first ∷ x ∷ others) → weight (get_or (x ∷ others) place []) ≤ weight (get_or (first ∷ x ∷ others) p [])
            from-rest high zero h = high
            from-rest high (suc p) h = is.least p (omega arith)

            behind : (p : ℕ) → p < length (first ∷ x ∷ others) → suc place < p → weight (get_or (x ∷ others) place []) < weight (get_or (first ∷ x ∷ others) p [])
            behind zero h g = let never : ⊥ = omega arith in absurd never
            behind (suc p) h g = is.last p (omega arith) (omega arith)

rank_from : (bound number : ℕ) → bound ≤ number → rank bound number ≡ number
rank_from bound number h = let e : leb bound number ≡ true = grind (arith, nat_tests) in rw e refl

rank_below : (bound number : ℕ) → number < bound → rank bound number ≡ number + 2 ^ 32
rank_below bound number h = let e : leb bound number ≡ false = grind (arith, nat_tests) in rw e refl

-- the last place of the nearest node is that of the consistent hash
hash_from : (job : ℕ) (list : List (List ℕ)) (place : ℕ) → IsLastLeast (nearest (job_number job)) list place → IsHashPlace job list place
hash_from job list place is = by (nearest_is bound (get_or list place []))
  where
    bound : ℕ
    bound = job_number job

    by : (node : ℕ) × (node < 100) × (nearest bound (get_or list place []) ≡ rank_at (get_or list place []) bound node) → IsHashPlace job list place
    by (node, within, near) = test (leb bound (node_number list place node)) refl
      where
        -- no node's rank is less than that of this one
        low : (p n : ℕ) → p < length list → n < 100 → nearest bound (get_or list place []) ≤ rank_at (get_or list p []) bound n
        low p n h g = omega (arith, is.least p h, nearest_least bound (get_or list p []) n g)

        -- and none behind it has as little
        behind : (p n : ℕ) → p < length list → n < 100 → place < p → nearest bound (get_or list place []) < rank_at (get_or list p []) bound n
        behind p n h g later = omega (arith, is.last p h later, nearest_least bound (get_or list p []) n g)

        test : (b : Bool) → leb bound (node_number list place node) ≡ b → IsHashPlace job list place
        test true is-from =
            let from : bound ≤ node_number list place node = grind (arith, nat_tests) in
            let own : nearest bound (get_or list place []) ≡ node_number list place node = near ∙ rank_from bound _ from in (
              node,
              inl (record {
                place_within = is.within;
                node_within = within;
                bound = from;
                least = λ p n h g above. omega (arith, own, low p n h g, rank_from bound (node_number list p n) above);
                last = λ p n h g same. not-behind own from p n h g same;
              }),
            )
          where
            not-behind : nearest bound (get_or list place []) ≡ node_number list place node → bound ≤ node_number list place node
                → (p n : ℕ) → p < length list → n < 100 → node_number list p n ≡ node_number list place node → p ≤ place
            not-behind own from p n h g same = check (leb p place) refl
              where
                check : (b : Bool) → leb p place ≡ b → p ≤ place
                check true t = grind (arith, nat_tests)
                check false t =
                    let later : place < p = grind (arith, nat_tests) in
                    let above : bound ≤ node_number list p n = omega (arith, from, same) in
                    let never : ⊥ = omega (arith, own, same, behind p n h g later, rank_from bound (node_number list p n) above) in absurd never
        test false is-from =
            let below : node_number list place node < bound = grind (arith, nat_tests) in
            let own : nearest bound (get_or list place []) ≡ node_number list place node + 2 ^ 32 = near ∙ rank_below bound _ below in (
              node,
              inr (
                all-below own,
                record {
                  place_within = is.within;
                  node_within = within;
                  bound = omega arith;
                  least = λ p n h g above. omega (arith, own, low p n h g, rank_below bound (node_number list p n) (all-below own p n h g));
                  last = λ p n h g same. not-behind own p n h g same;
                },
              ),
            )
          where
            all-below : nearest bound (get_or list place []) ≡ node_number list place node + 2 ^ 32 → AllNodesBelow list bound
            all-below own p n h g = check (ltb (node_number list p n) bound) refl
              where
                check : (b : Bool) → ltb (node_number list p n) bound ≡ b → node_number list p n < bound
                check true t = grind (arith, nat_tests)
                check false t =
                    let above : bound ≤ node_number list p n = grind (arith, nat_tests) in
                    let never : ⊥ = omega (arith, own, low p n h g, rank_from bound (node_number list p n) above, text_small (node_text (get_or list p []) n)) in absurd never

            not-behind : nearest bound (get_or list place []) ≡ node_number list place node + 2 ^ 32
                → (p n : ℕ) → p < length list → n < 100 → node_number list p n ≡ node_number list place node → p ≤ place
            not-behind own p n h g same = check (leb p place) refl
              where
                check : (b : Bool) → leb p place ≡ b → p ≤ place
                check true t = grind (arith, nat_tests)
                check false t =
                    let later : place < p = grind (arith, nat_tests) in
                    let never : ⊥ = omega (arith, own, same, behind p n h g later, rank_below bound (node_number list p n) (all-below own p n h g)) in absurd never

-- the address at the place of least weight, first or last
gives_first : (weight : List ℕ → ℕ) (first : List ℕ) (others : List (List ℕ)) → (place : ℕ) × (IsFirstLeast weight (first ∷ others) place) × GivesPlace (first ∷ others) place (To (first_least weight first others))
gives_first weight first others =
    let found = first_place weight first others in
    (found.0, found.1, record { within = found.1.within; address = sym (ap To (first_least_is weight first others found.0 found.1)) })

gives_hash : (job : ℕ) (first : List ℕ) (others : List (List ℕ)) → (place : ℕ) × (IsHashPlace job (first ∷ others) place) × GivesPlace (first ∷ others) place (To (last_least (nearest (job_number job)) first others))
gives_hash job first others =
    let found = last_place (nearest (job_number job)) first others in
    (found.0, hash_from job (first ∷ others) found.0 found.1, record { within = found.1.within; address = sym (ap To (last_least_is (nearest (job_number job)) first others found.0 found.1)) })

-- a shard's place stands in the list
shard_within : (index : ℕ) (first : List ℕ) (others : List (List ℕ)) → (if nat_lt index (length (first ∷ others)) then index else 0) < length (first ∷ others)
shard_within index first others = by (ltb index (length (first ∷ others))) refl
  where
    by : (b : Bool) → ltb index (length (first ∷ others)) ≡ b → cond {A = ℕ} b index 0 < length (first ∷ others)
    by true t = grind (arith, nat_tests)
    by false t = omega arith

routed_from : (route : Route) (job : ℕ) (first : List ℕ) (others : List (List ℕ)) (index word : ℕ) (picks : List (List ℕ))
    → IsRouted route job (first ∷ others) index word picks (chosen_from route job first others index word picks)
routed_from First job first others index word picks = (0, refl, record { within = omega arith; address = refl })
routed_from Last job first others index word picks = (length others, omega arith, record { within = omega arith; address = refl })
routed_from Round job first others index word picks = (_, refl, record { within = mod-lt _ (omega arith); address = refl })
routed_from Random job first others index word picks = (_, refl, record { within = mod-lt _ (omega arith); address = refl })
routed_from ConsistentHash job first others index word picks = gives_hash job first others
routed_from LeastFrequentlyUsed job first others index word picks = gives_first (pick_count picks) first others
routed_from LeastRecentlyUsed job first others index word picks = gives_first (last_pick picks) first others
routed_from Failover job first others index word picks = refl
routed_from Busyover job first others index word picks = refl
routed_from ShardingBroadcast job first others index word picks = (_, refl, record { within = shard_within index first others; address = refl })

pub chosen_is_choice : (route : Route) (job : ℕ) (list : List (List ℕ)) (index word : ℕ) (picks : List (List ℕ))
    → IsChoice route job list index word picks (chosen route job list index word picks)
chosen_is_choice route job [] index word picks = record { none = λ e. refl; routed = λ full. absurd (full refl) }
chosen_is_choice route job (first ∷ others) index word picks = record {
  none = λ e. absurd (omega (arith, ap length e));
  routed = λ full. routed_from route job first others index word picks;
}
