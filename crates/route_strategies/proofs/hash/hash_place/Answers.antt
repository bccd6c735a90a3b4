use Rattle.std.proofs.Common.{◌≡◌, ◌∙◌, ℕ, List, [], length, get_or, ap, subst, arith}
use Rattle.route_strategies.specs.Chosen.{nearest, last_least}
use Rattle.route_strategies.specs.Nearest.{IsNearestPlace}
use Rattle.route_strategies.proofs.ChosenLemmas.{IsLastLeast, nearest_place, last_least_is}
use Rattle.route_strategies.proofs.hash.hash_place.Goals as goal

pub returns-clause-nearest : goal.returns-clause-nearest
returns-clause-nearest c = λ first others is.
    let list = c.args.list.now in
    let all : c.loop-place.place ≡ length list = omega arith in
    let P : ℕ → Type 0 = λ n. IsNearestPlace list c.job_number_of-bound.result 100 n c.loop-place.nearest c.loop-place.least in
    let least : IsLastLeast (nearest c.job_number_of-bound.result) list c.loop-place.nearest = nearest_place c.job_number_of-bound.result c.loop-place.nearest c.loop-place.least list (subst P all c.loop-place.invariant) in
    let Q : List (List ℕ) → Type 0 = λ l. IsLastLeast (nearest c.job_number_of-bound.result) l c.loop-place.nearest in
    ap (λ (l : List (List ℕ)). get_or l c.loop-place.nearest []) is
    ∙ last_least_is (nearest c.job_number_of-bound.result) first others c.loop-place.nearest (subst Q is least)
    ∙ ap (λ b. last_least (nearest b) first others) c.job_number_of-bound.ensures
