use Rattle.std.proofs.Common.{◌∙◌, sym}
use Rattle.job_records.specs.declared.log.Log.{Log}
use Rattle.job_records.proofs.RowLemmas.{rises-from_rising}
use Rattle.settle_log.specs.Settling.{is_lost}
use Rattle.settle_log.proofs.ChoiceLemmas.{row-found, none-found}
use Rattle.settle_log.proofs.losses.first_lost.Goals as goal

pub returns-in-Some : goal.returns-in-Some
returns-in-Some c =
    let tables = c.args.records.now.kept in
    c.log.ensures
    ∙ row-found (is_lost c.args.at tables.registry) tables.logs c.in-Some.id (rises-from_rising (λ (l : Log). l.id) 0 tables.last.log tables.logs c.requires.logs.rising) (sym (rw c.in-Some.is at c.uncounted_lost.ensures))

pub returns-in-None : goal.returns-in-None
returns-in-None c =
    let tables = c.args.records.now.kept in
    sym (none-found (is_lost c.args.at tables.registry) tables.logs (sym (rw c.in-None.is at c.uncounted_lost.ensures)))
