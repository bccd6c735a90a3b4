use Rattle.api_messages.proofs.ExactItems.{alone_is, alone_has, alone_fault, alone_has_fault, callback_is, callback_has, callback_fault, callback_has_fault}
use Rattle.api_messages.proofs.laws.law_callbacks.Goals as goal

pub returns-clause-item : goal.returns-clause-item
returns-clause-item c = λ bytes cells. (alone_is bytes cells, alone_has bytes cells)

pub returns-clause-item_fault : goal.returns-clause-item_fault
returns-clause-item_fault c = λ bytes e. (alone_fault bytes e, alone_has_fault bytes e)

pub returns-clause-callback : goal.returns-clause-callback
returns-clause-callback c = λ bytes items. (callback_is bytes items, callback_has bytes items)

pub returns-clause-fault : goal.returns-clause-fault
returns-clause-fault c = λ bytes e. (callback_fault bytes e, callback_has_fault bytes e)
