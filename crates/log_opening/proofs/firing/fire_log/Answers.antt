use Rattle.std.proofs.Common.{◌∙◌, ◌∷◌, [], ◌++◌, List, ap, subst}
use Rattle.job_events.specs.declared.opened.Opened.{Opened}
use Rattle.job_records.specs.declared.last_ids.LastIds.{LastIds}
use Rattle.cluster_plan.specs.Kept.{pools_in}
use Rattle.log_opening.specs.Firing.{Fires}
use Rattle.log_opening.specs.Openings.{shot_in}
use Rattle.log_opening.proofs.FireLemmas.{fires-opened}
use Rattle.log_opening.proofs.firing.fire_log.Goals as goal

pub returns : goal.returns
returns c =
    let P : LastIds → Type 0 = λ l. Fires l (pools_in c.args.pools.now.kept) (shot_in c.args.new.now ∷ []) c.in_ok-fired.fired in
    subst P c.last_ids-last.ensures.value
    (fires-opened c.last_ids-last.result (pools_in c.args.pools.now.kept) (shot_in c.args.new.now ∷ []) c.new-openings.result c.open_log.new.openings c.in_ok-fired.fired
    c.new-openings.ensures.last c.new-openings.ensures.pools c.new-openings.ensures.puts c.new-openings.ensures.entering c.in_ok-one.ensures.opens c.in_ok-fired.ensures.changes c.in_ok-fired.ensures.entering
    (c.in_ok-fired.ensures.opened ∙ c.of.ensures ∙ c.in_ok-push_row.ensures.ok ∙ ap (λ (os : List Opened). os ++ c.in_ok-one.one ∷ []) c.new-opened.ensures.items ∙ ap (λ (o : Opened). o ∷ []) c.in_ok-one.ensures.opened))
