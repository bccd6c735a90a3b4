use Rattle.std.proofs.Common.{◌≡◌}
use Rattle.turn_lock.specs.Gains.{Gains}
use Rattle.shared_counter.specs.Counting.{IsLegal}
use Rattle.shared_counter.specs.Dealt.{HasMade}
use Rattle.shared_counter.proofs.callers.add_often.Given as goal

abbrev pub invariant-loop-i : goal.invariant-loop-i
invariant-loop-i g l = record {
  gains : Gains IsLegal l.initial.seat l.entries.items l.seat;
  here : l.seat.shared ≡ l.shared;
  made : HasMade l.by l._i l.entries.items l.seat;
}
