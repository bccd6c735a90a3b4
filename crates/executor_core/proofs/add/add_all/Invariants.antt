use Rattle.std.proofs.Common.{◌≡◌, ◌++◌, ◌≤◌}
use Rattle.std.specs.VecDeque.{deque_len}
use Rattle.executor_core.proofs.add.add_all.Given as goal

abbrev pub invariant-loop-item : goal.invariant-loop-item
invariant-loop-item l = record {
  waiting : l.callbacks.waiting ++ l.left.items ≡ l.fn.callbacks.waiting ++ l.initial.left.items;
  batch : l.callbacks.batch ≡ l.fn.callbacks.batch;
  spooled : l.callbacks.spooled ≡ l.fn.callbacks.spooled;
  room : deque_len l.left ≤ l.callbacks.room;
}

abbrev pub decreases-loop-item : goal.decreases-loop-item
decreases-loop-item l = deque_len l.left
