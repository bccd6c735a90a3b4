use Rattle.std.proofs.Common.{◌≡◌, ◌∙◌, List, None, sym, subst}
use Rattle.cluster_history.specs.Firings.{Shot}
use Rattle.cluster_plan.specs.Kept.{pools_in}
use Rattle.log_opening.specs.Firing.{Fires}
use Rattle.settle_log.specs.Results.{retry_of}
use Rattle.settle_plans.proofs.RetryLemmas.{tried-none}
use Rattle.settle_plans.proofs.retries.fire_again.Goals as goal

pub returns-in_default : goal.returns-in_default
returns-in_default c =
    let none : retry_of c.args.records.now.kept.jobs c.args.log.now ≡ None = sym c.in_ok-firing.ensures ∙ c.in_default.is in
    subst (λ (ss : List Shot). Fires c.args.records.now.kept.last (pools_in c.args.pools.now.kept) ss c.nothing_fired.result)
    (sym (tried-none c.args.records.now.kept.jobs c.args.at c.args.log.now none)) (c.nothing_fired.ensures (pools_in c.args.pools.now.kept))
