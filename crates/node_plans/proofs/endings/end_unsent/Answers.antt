use Rattle.std.proofs.Common.{◌≡◌, sym, ap, ◌∙◌, subst}
use Rattle.job_records.specs.Changes.{applied_all, AreAllowed}
use Rattle.node_plans.specs.Endings.{unsent_endings}
use Rattle.node_plans.proofs.ReopenLemmas.{ends-unsent}
use Rattle.node_plans.proofs.endings.end_unsent.Goals as goal

pub returns-clause-allowed : goal.returns-clause-allowed
returns-clause-allowed c =
    let is : c.of.result ≡ unsent_endings c.args.records.now.kept.logs = c.of.ensures ∙ c.in_ok-unsent_ends.ensures in
    subst (AreAllowed c.args.records.now.kept) (sym is) (ends-unsent c.args.records.now.kept c.last_ids.ensures.rules).allowed

pub returns-clause-gives : goal.returns-clause-gives
returns-clause-gives c =
    let is : c.of.result ≡ unsent_endings c.args.records.now.kept.logs = c.of.ensures ∙ c.in_ok-unsent_ends.ensures in
    ap (applied_all c.args.records.now.kept) is ∙ (ends-unsent c.args.records.now.kept c.last_ids.ensures.rules).gives

pub returns-clause-rules : goal.returns-clause-rules
returns-clause-rules c = (ends-unsent c.args.records.now.kept c.last_ids.ensures.rules).rules

pub returns-in_err-unsent_ends-clause-rules : goal.returns-in_err-unsent_ends-clause-rules
returns-in_err-unsent_ends-clause-rules c = (ends-unsent c.args.records.now.kept c.last_ids.ensures.rules).rules
