use Rattle.std.proofs.Common.{map, take}
use Rattle.serde_json.specs.View.{view}
use Rattle.api_messages.specs.Seen.{item_cells}
use Rattle.api_messages.proofs.Sent.{Sent}
use Rattle.api_messages.proofs.callbacks.array_value.Given as goal

abbrev pub invariant-loop-item : goal.invariant-loop-item
invariant-loop-item l = Sent (map view l.values.items) (map item_cells (take l.item-index l.items))
