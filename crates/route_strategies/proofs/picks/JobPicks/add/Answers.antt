use Rattle.std.proofs.Common.{sym, ap}
use Rattle.std.specs.String.{string_bytes}
use Rattle.route_strategies.specs.Picks.{JobState}
use Rattle.route_strategies.proofs.Counts.{picks_raised, picks_added}
use Rattle.route_strategies.proofs.picks.JobPicks.add.Goals as goal

pub returns-clause-exact : goal.returns-clause-exact
returns-clause-exact c =
    rw (← c.into_string.ensures)
    (picks_added c.args.self.now.kept c.self.inside.addresses c.raise.new.addresses c.self.inside.number c.into_string.result (sym (ap (λ (s : JobState). s.kept) c.self.view_is)) c.raise.ensures.entries)

pub returns-clause-picks : goal.returns-clause-picks
returns-clause-picks c = λ picks is.
    rw (← c.into_string.ensures)
    (picks_raised c.args.self.now.kept c.self.inside.addresses c.raise.new.addresses c.self.inside.number picks
    (string_bytes c.into_string.result) (sym (ap (λ (s : JobState). s.kept) c.self.view_is)) is c.requires.fewer c.raise.ensures.written)
