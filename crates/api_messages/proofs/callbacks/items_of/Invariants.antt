use Rattle.std.proofs.Common.{◌≡◌, map, drop}
use Rattle.serde_json.specs.View.{view}
use Rattle.api_messages.specs.Reading.{items_at, items_from}
use Rattle.api_messages.specs.Seen.{item_cells}
use Rattle.api_messages.proofs.callbacks.items_of.Given as goal

abbrev pub invariant-loop-value : goal.invariant-loop-value
invariant-loop-value l = items_from (map item_cells l.items.items) (map view (drop l.value-index l.values)) ≡ items_at (map view l.values)
