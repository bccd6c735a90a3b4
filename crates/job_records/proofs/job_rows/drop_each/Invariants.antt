use Rattle.std.proofs.Common.{◌≡◌, ◌≤◌, take}
use Rattle.rising_rows.specs.Rising.{without_all}
use Rattle.job_records.specs.DropBatches.{dropped_id}
use Rattle.job_records.specs.DueJobs.{due_entries}
use Rattle.job_records.proofs.job_rows.drop_each.Given as goal

abbrev pub invariant-loop-drop : goal.invariant-loop-drop
invariant-loop-drop l = record {
  keys : l.due.keys ≡ due_entries (without_all (λ job. job.id) dropped_id (take l.drop-index l.drops) l.jobs);
  room : l.fn.due.room ≤ l.due.room;
}
