use Rattle.trigger_pool.proofs.Tally.{tally_with}
use Rattle.trigger_pool.proofs.laws.law_tally.Goals as goal

pub returns : goal.returns
returns c = tally_with
