use Rattle.std.proofs.Common.{◌≡◌}
use Rattle.bench.proofs.acts.lock_alone.Given as goal

abbrev pub invariant-loop-round : goal.invariant-loop-round
invariant-loop-round g l = l.seat.shared ≡ l.shared
