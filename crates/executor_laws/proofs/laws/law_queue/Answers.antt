use Rattle.executor_history.specs.History.{accepted}
use Rattle.executor_laws.proofs.Free.{free_of}
use Rattle.executor_laws.proofs.Queue.{waits_is, in_order, accepted_ones}
use Rattle.executor_laws.proofs.laws.law_queue.Goals as goal

pub returns-clause-waits : goal.returns-clause-waits
returns-clause-waits c = λ h number legal. waits_is (accepted h) number (free_of h legal)

pub returns-clause-order : goal.returns-clause-order
returns-clause-order c = in_order

pub returns-clause-are : goal.returns-clause-are
returns-clause-are c = accepted_ones
