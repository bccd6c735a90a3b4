use Rattle.http_reading.proofs.LawLemmas.{one_request}
use Rattle.http_reading.proofs.laws.law_one_request.Goals as goal

pub returns : goal.returns
returns c = one_request
