-- What the choice of a route is, in other words than its value.
use Rattle.std.specs.Prelude.{ℕ, List}
use Rattle.job_values.specs.declared.words.Route.{Route}
use Rattle.route_strategies.specs.Choice.{IsChoice}
use Rattle.route_strategies.specs.Chosen.{chosen}

-- what a route chooses is a choice as the routes are said, from every list and after all picks
abbrev pub ChosenIsChoice : Type 0
ChosenIsChoice =
    (route : Route) (job : ℕ) (list : List (List ℕ)) (index word : ℕ) (picks : List (List ℕ))
    → IsChoice route job list index word picks (chosen route job list index word picks)
