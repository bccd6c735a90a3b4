use Rattle.std.proofs.Common.{◌≡◌, ℕ, length, take, subst, arith}
use Rattle.job_records.specs.DropBatches.{AreRegistryDrops}
use Rattle.job_records.proofs.BatchLemmas.{goes-on}
use Rattle.job_records.proofs.registry_batches.first_registry_drops.Goals as goal

pub loop-place-preserved : goal.loop-place-preserved
loop-place-preserved c =
    goes-on c.args.changes.now c.loop-place.place (omega arith) c.loop-place.invariant (c.goes_on.ensures c.if-not-goes_on.false)

pub returns-clause-drops : goal.returns-clause-drops
returns-clause-drops c =
    let same : c.loop-place.place ≡ length c.args.changes.now = omega arith in
    let P : ℕ → Type 0 = λ n. AreRegistryDrops (take n c.args.changes.now) in
    subst P same c.loop-place.invariant
