use Rattle.std.proofs.Common.{◌∙◌, sym}
use Rattle.job_records.specs.LogClasses.{is_unmarked}
use Rattle.settle_log.proofs.ChoiceLemmas.{first-failed, none-failed}
use Rattle.settle_log.proofs.failures.first_failed.Goals as goal

pub returns-in-Some : goal.returns-in-Some
returns-in-Some c =
    c.log.ensures ∙ first-failed is_unmarked c.args.records.now.kept.logs c.in-Some.id c.log_index.ensures.rising (sym (rw c.log_index.ensures.failed at c.in-Some.ensures))

pub returns-in-None : goal.returns-in-None
returns-in-None c = sym (none-failed is_unmarked c.args.records.now.kept.logs (sym (rw c.log_index.ensures.failed at c.in-None.ensures)))
