use Rattle.std.proofs.Common.{◌≡◌, ◌≤◌, take}
use Rattle.rising_rows.specs.Rising.{without_all}
use Rattle.job_records.specs.DropBatches.{dropped_id}
use Rattle.job_records.specs.LogClasses.{is_unmarked, is_awaited, log_ids}
use Rattle.job_records.proofs.log_rows.drop_each.Given as goal

abbrev pub invariant-loop-drop : goal.invariant-loop-drop
invariant-loop-drop l = record {
  failed : l.index.failed ≡ log_ids is_unmarked (without_all (λ log. log.id) dropped_id (take l.drop-index l.drops) l.logs);
  awaited : l.index.awaited ≡ log_ids is_awaited (without_all (λ log. log.id) dropped_id (take l.drop-index l.drops) l.logs);
  room : l.fn.index.room ≤ l.index.room;
}
