use Rattle.std.proofs.Common.{◌+◌, ◌-◌, drop}
use Rattle.job_records.proofs.DropLemmas.{allowed-take}
use Rattle.job_records.proofs.records.Records.apply_by_ids.Goals as goal

pub apply_drops-requires-clause-allowed : goal.apply_drops-requires-clause-allowed
apply_drops-requires-clause-allowed c =
    rw c.deref-then-count-gt1.ensures.value
    (allowed-take c.args.self.now.kept (c.args.at + c.first_drops-count.result - c.args.at) (drop c.args.at c.args.changes.now.items) c.requires.allowed)
