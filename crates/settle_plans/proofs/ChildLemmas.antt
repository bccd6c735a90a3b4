-- The children that a result fires.
use Rattle.std.proofs.Common.{◌≡◌, ℕ, ◌+◌, List, [], ◌∷◌, ◌++◌, length, refl, ap}
use Rattle.job_values.specs.declared.words.TriggerKind.TheVariants.{Parent}
use Rattle.job_records.specs.Tables.{Tables}
use Rattle.cluster_history.specs.Looks.{job_with}
use Rattle.cluster_history.specs.Firings.{shots_each, shots_if}
use Rattle.cluster_history.specs.Openings.{Pools, pools_after}
use Rattle.cluster_history.specs.Replies.{children_from, child_by}
use Rattle.log_opening.specs.Series.{shots_all, told_all}
use Rattle.settle_plans.specs.Children.{children_at}

-- children open what the history's children do
pub children-open : (t : Tables) (at : ℕ) (ids : List ℕ) → shots_all (children_at at) t ids ≡ shots_each t.groups t.jobs Parent at ids
children-open t at [] = refl
children-open t at (id ∷ ids) = ap (λ ss. shots_if t.groups Parent at (job_with id t.jobs) ++ ss) (children-open t at ids)

-- and the same is told of them
pub children-told : (t : Tables) (at last : ℕ) (pools : Pools) (ids : List ℕ) → told_all (children_at at) t last pools ids ≡ children_from t.groups t.jobs at last pools ids
children-told t at last pools [] = refl
children-told t at last pools (id ∷ ids) =
    ap (λ fs. child_by id last pools (shots_if t.groups Parent at (job_with id t.jobs)) ∷ fs)
    (children-told t at (last + length (shots_if t.groups Parent at (job_with id t.jobs))) (pools_after pools (shots_if t.groups Parent at (job_with id t.jobs))) ids)
