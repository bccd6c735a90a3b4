use Rattle.std.proofs.Common.{◌≡◌, drop}
use Rattle.executor_history.specs.Past.{put_ids}
use Rattle.executor_core.proofs.Held.{Left}
use Rattle.executor_core.proofs.add.hold_all.Given as goal

abbrev pub invariant-loop-item : goal.invariant-loop-item
invariant-loop-item l = (put_ids (drop l.item-index l.items) l.held.ids ≡ put_ids l.items l.fn.held.ids) × Left (drop l.item-index l.items) l.held.ids
