use Rattle.std.proofs.Common.{map, ◌≡◌, ◌++◌, ◌∷◌, []}
use Rattle.std.proofs.lemmas.List.{map_push}
use Rattle.std.proofs.lemmas.Result.{err_from_is_err_and}
use Rattle.api_messages.specs.Seen.{item_cells}
use Rattle.api_messages.proofs.Items.{goes_on, stops, ends}
use Rattle.api_messages.proofs.callbacks.items_of.Goals as goal

pub returns-in_err-item : goal.returns-in_err-item
returns-in_err-item c =
    let p = err_from_is_err_and c.from_residual-in_err-item.result c.from_residual-in_err-item.ensures.1 in
    rw (p.1, p.2) (stops c.args.values.now c.loop-value.value-index c.value-item.result _ _ _ c.loop-value-test.true c.value-item.is c.in_err-item.ensures c.loop-value.invariant)

pub loop-value-preserved : goal.loop-value-preserved
loop-value-preserved c =
    let e : map item_cells c.push.new.self.items ≡ map item_cells c.loop-value.items.items ++ item_cells c.in_ok-item.item ∷ [] = rw c.in_ok-push.ensures.items (map_push item_cells _ _) in
    rw e (goes_on c.args.values.now c.loop-value.value-index c.value-item.result _ _ _ c.loop-value-test.true c.value-item.is c.in_ok-item.ensures c.loop-value.invariant)

pub returns : goal.returns
returns c = ends c.args.values.now c.loop-value.value-index _ _ c.loop-value-test.false c.loop-value.invariant
