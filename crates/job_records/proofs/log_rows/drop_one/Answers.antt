use Rattle.std.proofs.Common.{sym}
use Rattle.job_records.specs.LogClasses.{is_unmarked, is_awaited}
use Rattle.job_records.proofs.IndexLemmas.{moved-found}
use Rattle.job_records.proofs.log_rows.drop_one.Goals as goal

pub returns-in-Some-clause-failed : goal.returns-in-Some-clause-failed
returns-in-Some-clause-failed c =
    moved-found is_unmarked c.args.id c.args.logs.now c.in-Some.log.now c.args.index.now.failed c.drop_log.new.self.failed c.class_of.result.failed (sym c.in-Some.ensures) c.class_of.ensures.failed c.drop_log.ensures.failed

pub returns-in-Some-clause-awaited : goal.returns-in-Some-clause-awaited
returns-in-Some-clause-awaited c =
    moved-found is_awaited c.args.id c.args.logs.now c.in-Some.log.now c.args.index.now.awaited c.drop_log.new.self.awaited c.class_of.result.awaited (sym c.in-Some.ensures) c.class_of.ensures.awaited c.drop_log.ensures.awaited
