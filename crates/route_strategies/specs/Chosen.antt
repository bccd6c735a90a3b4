-- The choice of each route as one value.
use Rattle.std.specs.Prelude.{ℕ, ◌-◌, ◌%◌, min, zero, suc, nat_lt, nat_le, if◌then◌else◌, List, [], ◌∷◌, length, slice_index_or}
use Rattle.std.specs.List.{best_of}
use Rattle.job_values.specs.declared.words.Route.{Route}
use Rattle.job_values.specs.declared.words.Route.TheVariants.{First, Last, Round, Random, ConsistentHash, LeastFrequentlyUsed, LeastRecentlyUsed, Failover, Busyover, ShardingBroadcast}
use Rattle.job_values.specs.declared.choice.Choice.{Choice}
use Rattle.job_values.specs.declared.choice.Choice.TheVariants.{To, Beat, Idle, NoAddress}
use Rattle.route_strategies.specs.declared.hash.TheConstants.{NODES}
use Rattle.route_strategies.specs.Hash.{job_number}
use Rattle.route_strategies.specs.Nearest.{rank_at}
use Rattle.route_strategies.specs.Picks.{pick_count, last_pick}
use Rattle.route_strategies.specs.declared.way.Way.{Way}
use Rattle.route_strategies.specs.declared.way.Way.TheVariants as way

-- the least rank of the nodes up to this one
abbrev pub least_rank : ℕ → List ℕ → ℕ → ℕ
least_rank bound address zero = rank_at address bound 0
least_rank bound address (suc node) = min (least_rank bound address node) (rank_at address bound (suc node))

-- the least rank of the nodes of an address
unfoldable pub nearest : ℕ → List ℕ → ℕ
nearest bound address = least_rank bound address (NODES - 1)

-- the first address of the least weight
abbrev pub first_least : (List ℕ → ℕ) → List ℕ → List (List ℕ) → List ℕ
first_least weight first others = best_of (λ x y. nat_lt (weight x) (weight y)) first others

-- the last one
abbrev pub last_least : (List ℕ → ℕ) → List ℕ → List (List ℕ) → List ℕ
last_least weight first others = best_of (λ x y. nat_le (weight x) (weight y)) first others

-- what a route chooses from a list with a first address
abbrev pub chosen_from : Route → ℕ → List ℕ → List (List ℕ) → ℕ → ℕ → List (List ℕ) → Choice
chosen_from First job first others index word picks = To first
chosen_from Last job first others index word picks = To (slice_index_or (first ∷ others) (length others) [])
chosen_from Round job first others index word picks = To (slice_index_or (first ∷ others) (length picks % length (first ∷ others)) [])
chosen_from Random job first others index word picks = To (slice_index_or (first ∷ others) (word % length (first ∷ others)) [])
chosen_from ConsistentHash job first others index word picks = To (last_least (nearest (job_number job)) first others)
chosen_from LeastFrequentlyUsed job first others index word picks = To (first_least (pick_count picks) first others)
chosen_from LeastRecentlyUsed job first others index word picks = To (first_least (last_pick picks) first others)
chosen_from Failover job first others index word picks = Beat (first ∷ others)
chosen_from Busyover job first others index word picks = Idle (first ∷ others)
chosen_from ShardingBroadcast job first others index word picks =
    To (slice_index_or (first ∷ others) (if nat_lt index (length (first ∷ others)) then index else 0) [])

-- what a route chooses from the list of a group, for a log of this job with this index, after these picks of the job
abbrev pub chosen : Route → ℕ → List (List ℕ) → ℕ → ℕ → List (List ℕ) → Choice
chosen route job [] index word picks = NoAddress
chosen route job (first ∷ others) index word picks = chosen_from route job first others index word picks

-- the choice that a way gives: the address at its place, or the whole list
abbrev pub choice_at : List (List ℕ) → Way → Choice
choice_at list (way.Place place) = To (slice_index_or list place [])
choice_at list way.Beat = Beat list
choice_at list way.Idle = Idle list
