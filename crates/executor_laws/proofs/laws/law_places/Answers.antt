use Rattle.executor_laws.proofs.Places.{last_entry, count_places, entry_after}
use Rattle.executor_laws.proofs.laws.law_places.Goals as goal

pub returns-clause-last : goal.returns-clause-last
returns-clause-last c = last_entry

pub returns-clause-count : goal.returns-clause-count
returns-clause-count c = count_places

pub returns-clause-next : goal.returns-clause-next
returns-clause-next c = entry_after
