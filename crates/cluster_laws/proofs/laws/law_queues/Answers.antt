use Rattle.cluster_laws.proofs.QueueLemmas.{queues-are_left}
use Rattle.cluster_laws.proofs.laws.law_queues.Goals as goal

pub returns : goal.returns
returns c = queues-are_left
