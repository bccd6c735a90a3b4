use Rattle.http_reading.proofs.OneFaultLemmas.{one_fault}
use Rattle.http_reading.proofs.laws.law_one_fault.Goals as goal

pub returns : goal.returns
returns c = one_fault
