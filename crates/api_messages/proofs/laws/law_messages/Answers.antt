use Rattle.api_messages.proofs.ExactBodies.{message_is, message_has, message_fault, message_has_fault}
use Rattle.api_messages.proofs.laws.law_messages.Goals as goal

pub returns-clause-message : goal.returns-clause-message
returns-clause-message c = λ rows bytes cells. (message_is rows bytes cells, message_has rows bytes cells)

pub returns-clause-fault : goal.returns-clause-fault
returns-clause-fault c = λ rows bytes e. (message_fault rows bytes e, message_has_fault rows bytes e)
