use Rattle.std.proofs.Common.{ap, subst}
use Rattle.job_records.specs.Rules.{KeepsRules}
use Rattle.job_records.proofs.Keeping.{all_keep}
use Rattle.job_records.proofs.DropLemmas.{pass-registry}
use Rattle.job_records.proofs.records.Records.apply_registry_drops.Goals as goal

pub returns-clause-kept : goal.returns-clause-kept
returns-clause-kept c =
    pass-registry _ c.args.self.now.kept c.args.drops.now c.drop_registrations.new.rows.items (ap (λ s. s.kept) c.self.view_is) c.requires.drops.all c.drop_registrations.ensures.rows

pub invariant_of-self : goal.invariant_of-self
invariant_of-self c =
    let same = ap (λ s. s.kept) c.self.view_is in
    rw (pass-registry _ c.args.self.now.kept c.args.drops.now c.drop_registrations.new.rows.items same c.requires.drops.all c.drop_registrations.ensures.rows)
    (all_keep c.args.self.now.kept c.args.drops.now (subst KeepsRules same c.self.invariant) c.requires.allowed)
