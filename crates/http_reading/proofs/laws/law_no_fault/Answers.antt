use Rattle.http_reading.proofs.LawLemmas.{no_fault, none_no_fault}
use Rattle.http_reading.proofs.laws.law_no_fault.Goals as goal

pub returns-clause-request : goal.returns-clause-request
returns-clause-request c = no_fault

pub returns-clause-none : goal.returns-clause-none
returns-clause-none c = none_no_fault
