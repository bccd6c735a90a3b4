use Rattle.api_messages.proofs.OneItem.{told_older, told_first}
use Rattle.api_messages.proofs.item.told_of.Goals as goal

pub returns-in-Some : goal.returns-in-Some
returns-in-Some c = rw (told_older _ _ c.in-Some.ensures) c.result_of.ensures

pub returns-in-None : goal.returns-in-None
returns-in-None c = rw (told_first _ c.in-None.ensures) c.members_of.ensures
