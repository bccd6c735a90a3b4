use Rattle.std.proofs.Common.{rules}
use Rattle.std.proofs.lemmas.Fn.{always_returns_same}
use Rattle.rising_rows.proofs.SeatLemmas.{seat-searched}
use Rattle.job_records.specs.DropBatches.{drop_order}
use Rattle.job_records.proofs.BatchLemmas.{split-drops}
use Rattle.job_records.proofs.registry_batches.drop_seat.Goals as goal

pub returns : goal.returns
returns c =
    let order = drop_order c.args.key.now c.args.value.now in
    seat-searched order c.args.drops.now c.binary_search_by.result (split-drops c.args.key.now c.args.value.now c.args.drops.now c.requires) c.binary_search_by.ensures.bound
    (c.binary_search_by.ensures.position order (always_returns_same _ _ _ (λ a r f' called. search rules)))
