use Rattle.std.proofs.Common.{refl}
use Rattle.script_text.proofs.laws.law_numbers.Goals as goal

pub returns : goal.returns
returns c = record { admin = refl; moment = refl; log = refl; word = refl; log_moment = refl; id = refl; timeout = refl; retries = refl; app = refl; name = refl; param = refl; result = refl; schedule = refl; addresses = refl; children = refl }
