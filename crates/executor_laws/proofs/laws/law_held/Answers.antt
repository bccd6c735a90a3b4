use Rattle.executor_history.specs.History.{accepted}
use Rattle.executor_laws.proofs.Held.{alone}
use Rattle.executor_laws.proofs.Once.{once}
use Rattle.executor_laws.proofs.Items.{conserved}
use Rattle.executor_laws.proofs.laws.law_held.Goals as goal

pub returns-clause-alone : goal.returns-clause-alone
returns-clause-alone c = alone

pub returns-clause-once : goal.returns-clause-once
returns-clause-once c = λ h number. once (accepted h) number

pub returns-clause-kept : goal.returns-clause-kept
returns-clause-kept c = conserved
