use Rattle.registry_beats.proofs.ListLemmas.{swept-list}
use Rattle.registry_beats.proofs.laws.law_lists.Goals as goal

pub returns : goal.returns
returns c = λ at rows rules app. swept-list at rows rules app
