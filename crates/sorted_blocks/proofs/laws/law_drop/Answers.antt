use Rattle.sorted_blocks.proofs.LawLemmas.{has-without}
use Rattle.sorted_blocks.proofs.OrderLemmas.{rises-without}
use Rattle.sorted_blocks.proofs.laws.law_drop.Goals as goal

pub returns-clause-rising : goal.returns-clause-rising
returns-clause-rising c = λ key keys rises. rises-without key keys rises

pub returns-clause-there : goal.returns-clause-there
returns-clause-there c = λ key other keys. has-without key other keys
