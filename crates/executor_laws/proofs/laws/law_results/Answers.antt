use Rattle.executor_history.specs.History.{accepted}
use Rattle.executor_laws.proofs.Free.{free_of}
use Rattle.executor_laws.proofs.Stands.{stands}
use Rattle.executor_laws.proofs.Gives.{gives_tell, result_is_told}
use Rattle.executor_laws.proofs.Told.{batch_given}
use Rattle.executor_laws.proofs.laws.law_results.Goals as goal

pub returns-clause-at_once : goal.returns-clause-at_once
returns-clause-at_once c = λ h e r legal. gives_tell (accepted h) e r (stands (accepted h) (free_of h legal))

pub returns-clause-told : goal.returns-clause-told
returns-clause-told c = λ h number legal. result_is_told (accepted h) (free_of h legal) number

pub returns-clause-batch : goal.returns-clause-batch
returns-clause-batch c = batch_given
