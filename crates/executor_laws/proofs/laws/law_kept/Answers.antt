use Rattle.executor_laws.proofs.Kept.{held_is, known_is}
use Rattle.executor_laws.proofs.laws.law_kept.Goals as goal

pub returns-clause-held : goal.returns-clause-held
returns-clause-held c = held_is

pub returns-clause-known : goal.returns-clause-known
returns-clause-known c = known_is
