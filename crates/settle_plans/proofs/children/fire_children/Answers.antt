use Rattle.std.proofs.Common.{◌≡◌, ◌<◌, ◌+◌, ◌∙◌, length, ap, arith}
use Rattle.job_values.specs.declared.limits.TheConstants.{LAST_LOG_ID}
use Rattle.job_records.specs.declared.last_ids.LastIds.{LastIds}
use Rattle.cluster_plan.specs.Kept.{pools_in}
use Rattle.log_opening.specs.Openings.{opening_changes}
use Rattle.log_opening.specs.Series.{shots_all, FiresBehind}
use Rattle.log_opening.proofs.SeriesLemmas.{series-made}
use Rattle.settle_plans.specs.Children.{children_at}
use Rattle.settle_plans.proofs.children.fire_children.Goals as goal

pub returns-then-not-fits : goal.returns-then-not-fits
returns-then-not-fits c =
    let ids : c.new.result.last ≡ c.args.records.now.kept.last.log = c.new.ensures.last ∙ ap (λ (last : LastIds). last.log) c.last_ids-last.ensures.value in
    let over : LAST_LOG_ID < c.new.result.last + length (shots_all (children_at c.args.at) c.args.records.now.kept c.args.children.now) = rw c.if-not-fits.true at c.in_ok-fits.ensures in
    omega (arith, over, ids)

pub returns : goal.returns
returns c =
    let ids : c.new.result.last ≡ c.args.records.now.kept.last.log = c.new.ensures.last ∙ ap (λ (last : LastIds). last.log) c.last_ids-last.ensures.value in
    let fired : FiresBehind (children_at c.args.at) c.args.records.now.kept c.args.children.now c.new.result c.fire_each.new.so_far.openings c.new-2.result.items c.fire_each.new.so_far.fired.items = rw c.if-not-fits.false at c.in_ok-fits.ensures in
    let made = c.in_ok-changes.ensures
    ∙ ap (λ last. opening_changes last c.fire_each.new.so_far.openings.last c.fire_each.new.so_far.openings.puts.items) c.last_ids-last.ensures.value in
    series-made (children_at c.args.at) c.args.records.now.kept (pools_in c.args.pools.now.kept) c.args.children.now c.new.result c.fire_each.new.so_far.openings c.new-2.result.items c.fire_each.new.so_far.fired.items c.in_ok-changes.changes.items
    (record { ids = ids; pool = c.new.ensures.pools; puts = c.new.ensures.puts; entering = c.new.ensures.entering }) c.new-2.ensures.items fired made
