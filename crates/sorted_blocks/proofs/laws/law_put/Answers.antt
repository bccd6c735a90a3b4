use Rattle.sorted_blocks.proofs.LawLemmas.{has-put, put-again}
use Rattle.sorted_blocks.proofs.OrderLemmas.{rises-put}
use Rattle.sorted_blocks.proofs.laws.law_put.Goals as goal

pub returns-clause-rising : goal.returns-clause-rising
returns-clause-rising c = λ key keys rises. rises-put key keys rises

pub returns-clause-there : goal.returns-clause-there
returns-clause-there c = λ key other keys. has-put key other keys

pub returns-clause-again : goal.returns-clause-again
returns-clause-again c = λ key keys rises has. put-again key keys rises has
