use Rattle.http_ends.proofs.AddressLemmas.{one_address}
use Rattle.http_ends.proofs.laws.law_one_address.Goals as goal

pub returns : goal.returns
returns c = one_address
