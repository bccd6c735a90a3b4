use Rattle.std.proofs.Common.{◌≡◌, ◌+◌, ◌++◌, drop, take}
use Rattle.std.specs.VecDeque.{deque_len, deque_capacity}
use Rattle.callback_spool.proofs.batch.move_first.Given as goal

abbrev pub invariant-loop-moved : goal.invariant-loop-moved
invariant-loop-moved l = record {
  from : l.from.items ≡ drop l._moved l.fn.from.items;
  to : l.to.items ≡ l.fn.to.items ++ take l._moved l.fn.from.items;
  from_len : deque_len l.from + l._moved ≡ deque_len l.fn.from;
  to_len : deque_len l.to ≡ deque_len l.fn.to + l._moved;
  from_capacity : deque_capacity l.from ≡ deque_capacity l.fn.from;
  to_capacity : deque_capacity l.to ≡ deque_capacity l.fn.to;
}
