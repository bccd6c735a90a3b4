use Rattle.std.proofs.Common.{take}
use Rattle.job_records.specs.DropBatches.{AreRegistryDrops}
use Rattle.job_records.proofs.registry_batches.first_registry_drops.Given as goal

abbrev pub invariant-loop-place : goal.invariant-loop-place
invariant-loop-place l = AreRegistryDrops (take l.place l.changes)
