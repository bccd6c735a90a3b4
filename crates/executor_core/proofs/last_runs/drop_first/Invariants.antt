use Rattle.std.proofs.Common.{◌≡◌, ◌+◌, not}
use Rattle.std.specs.VecDeque.{deque_len}
use Rattle.executor_core.specs.declared.last_runs.LastRun.{LastRun}
use Rattle.executor_core.specs.Rows.{is_trimmed_run}
use Rattle.executor_core.proofs.Firsts.{turned}
use Rattle.executor_core.proofs.last_runs.drop_first.Given as goal

abbrev pub invariant-loop-read : goal.invariant-loop-read
invariant-loop-read l = record {
  items : l.runs.items ≡ turned (λ (run : LastRun). not (is_trimmed_run l.at l.held.ids l.queues.on_runners run)) l._read l.fn.runs.items;
  len : deque_len l.runs + l._read ≡ deque_len l.fn.runs + l.kept;
}
