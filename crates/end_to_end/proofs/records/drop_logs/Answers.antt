use Rattle.std.proofs.Common.{take}
use Rattle.job_records.proofs.Keeping.{drop_logs_allowed}
use Rattle.end_to_end.proofs.records.drop_logs.Goals as goal

pub apply-requires-clause-allowed : goal.apply-requires-clause-allowed
apply-requires-clause-allowed g c =
    rw (c.reserve.ensures.same, c.of-drops.ensures, c.loop-id.invariant)
    (drop_logs_allowed c.args.records.now.kept (take c.loop-id.id-index c.args.ids.now) c.last_ids-rules.ensures.rules)
