use Rattle.std.proofs.Common.{◌≡◌}
use Rattle.turn_lock.specs.Seats.{IsSameSeat}
use Rattle.executor_rows.proofs.story.are_so.Given as goal

abbrev pub invariant-loop-line : goal.invariant-loop-line
invariant-loop-line g l = (l.seat.shared ≡ l.shared) × IsSameSeat l.initial.seat l.seat
