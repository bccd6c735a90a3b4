use Rattle.std.proofs.Common.{ap, subst}
use Rattle.job_records.specs.Rules.{KeepsRules}
use Rattle.job_records.proofs.Keeping.{all_keep}
use Rattle.job_records.proofs.DropLemmas.{pass-jobs, pass-logs}
use Rattle.job_records.proofs.records.Records.apply_drops.Goals as goal

pub returns-in-Job-clause-kept : goal.returns-in-Job-clause-kept
returns-in-Job-clause-kept c =
    pass-jobs _ c.args.self.now.kept c.args.drops.now c.take_all.new.self.rows (ap (λ s. s.kept) c.self.view_is) (rw c.in-Job.is at c.requires.drops.all) c.take_all.ensures.rows

pub returns-in-Log-clause-kept : goal.returns-in-Log-clause-kept
returns-in-Log-clause-kept c =
    pass-logs _ c.args.self.now.kept c.args.drops.now c.take_all-in-Log.new.self.rows (ap (λ s. s.kept) c.self.view_is) (rw c.in-Log.is at c.requires.drops.all) c.take_all-in-Log.ensures.rows

pub invariant_of-self : goal.invariant_of-self
invariant_of-self c =
    let same = ap (λ s. s.kept) c.self.view_is in
    rw (pass-jobs _ c.args.self.now.kept c.args.drops.now c.take_all.new.self.rows same (rw c.in-Job.is at c.requires.drops.all) c.take_all.ensures.rows)
    (all_keep c.args.self.now.kept c.args.drops.now (subst KeepsRules same c.self.invariant) c.requires.allowed)

pub invariant_of-self-in-Log : goal.invariant_of-self-in-Log
invariant_of-self-in-Log c =
    let same = ap (λ s. s.kept) c.self.view_is in
    rw (pass-logs _ c.args.self.now.kept c.args.drops.now c.take_all-in-Log.new.self.rows same (rw c.in-Log.is at c.requires.drops.all) c.take_all-in-Log.ensures.rows)
    (all_keep c.args.self.now.kept c.args.drops.now (subst KeepsRules same c.self.invariant) c.requires.allowed)
