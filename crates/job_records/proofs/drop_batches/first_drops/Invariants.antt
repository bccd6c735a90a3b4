use Rattle.std.proofs.Common.{take}
use Rattle.std.specs.List.{AllPass}
use Rattle.rising_rows.specs.Rising.{IsRising}
use Rattle.job_records.specs.DropBatches.{dropped_id, is_drop_of}
use Rattle.job_records.proofs.drop_batches.first_drops.Given as goal

abbrev pub invariant-loop-place : goal.invariant-loop-place
invariant-loop-place l = record {
  rising : IsRising dropped_id 0 (take l.place l.changes) l.last;
  all : AllPass (is_drop_of l.kind) (take l.place l.changes);
}
