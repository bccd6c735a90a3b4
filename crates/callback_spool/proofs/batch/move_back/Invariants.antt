use Rattle.std.proofs.Common.{◌≡◌, ◌+◌, ◌++◌}
use Rattle.std.specs.VecDeque.{deque_len, deque_capacity}
use Rattle.callback_spool.proofs.batch.move_back.Given as goal

abbrev pub invariant-loop-item : goal.invariant-loop-item
invariant-loop-item l = record {
  together : l.from.items ++ l.to.items ≡ l.fn.from.items ++ l.fn.to.items;
  len : deque_len l.from + deque_len l.to ≡ deque_len l.fn.from + deque_len l.fn.to;
  from_capacity : deque_capacity l.from ≡ deque_capacity l.fn.from;
  to_capacity : deque_capacity l.to ≡ deque_capacity l.fn.to;
}

abbrev pub decreases-loop-item : goal.decreases-loop-item
decreases-loop-item l = deque_len l.from
