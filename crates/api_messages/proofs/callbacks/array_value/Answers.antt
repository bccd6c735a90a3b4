use Rattle.std.proofs.Common.{map, ap, ◌∙◌}
use Rattle.std.proofs.lemmas.List.{take_all}
use Rattle.serde_json.specs.Data.{array}
use Rattle.serde_json.specs.View.{items_of}
use Rattle.serde_json.proofs.Views.{view-Array}
use Rattle.api_messages.specs.Tables.{item_rows}
use Rattle.api_messages.specs.Seen.{item_cells}
use Rattle.api_messages.specs.Writing.{object_of}
use Rattle.api_messages.proofs.Sent.{Sent-more}
use Rattle.api_messages.proofs.callbacks.array_value.Goals as goal

pub loop-item-preserved : goal.loop-item-preserved
loop-item-preserved c =
    Sent-more c.loop-item.values.items c.push.new.self.items c.args.items.now c.loop-item.item-index _ c.item-item.result c.in_ok-push.ensures.items c.loop-item-test.true c.item-item.is c.loop-item.invariant c.in_ok-item_value.ensures.value c.in_ok-item_value.ensures.fits

pub returns-clause-value : goal.returns-clause-value
returns-clause-value c =
    view-Array c.loop-item.values ∙ ap (λ ds. array (items_of ds)) (c.loop-item.invariant.same ∙ ap (λ ms. map (object_of item_rows) (map item_cells ms)) (take_all _ _ c.loop-item-test.false))
