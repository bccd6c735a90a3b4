use Rattle.route_strategies.proofs.ChosenLaw.{chosen_is_choice}
use Rattle.route_strategies.proofs.laws.law_chosen.Goals as goal

pub returns : goal.returns
returns c = chosen_is_choice
