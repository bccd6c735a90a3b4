use Rattle.std.proofs.Common.{refl}
use Rattle.replay_program.proofs.laws.law_numbers.Goals as goal

pub returns : goal.returns
returns c = record { moment = refl; offset = refl; fast = refl; slow = refl; times = refl }
