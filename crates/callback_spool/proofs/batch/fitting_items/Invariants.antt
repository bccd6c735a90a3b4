use Rattle.std.proofs.Common.{◌≡◌, ◌+◌, ◌≤◌, drop}
use Rattle.std.specs.VecDeque.{deque_len}
use Rattle.callback_spool.specs.Batches.{fitting, batch_len}
use Rattle.job_values.specs.declared.limits.TheConstants.{BATCH_BYTES}
use Rattle.callback_spool.proofs.batch.fitting_items.Given as goal

abbrev pub invariant-loop-count : goal.invariant-loop-count
invariant-loop-count l = record {
  within : l.count ≤ deque_len l.items;
  bytes : l.bytes ≤ BATCH_BYTES;
  rest : l.count + fitting l.count l.bytes (drop l.count l.items.items) ≡ batch_len l.items.items;
}
