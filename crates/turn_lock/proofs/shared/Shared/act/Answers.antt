use Rattle.turn_lock.proofs.Seated.{turn_holds, acted_seated, refused_seated}
use Rattle.turn_lock.proofs.shared.Shared.act.Goals as goal

pub turn-requires-clause-turn : goal.turn-requires-clause-turn
turn-requires-clause-turn g c = turn_holds g.M.Machine.stands c.seat.inside.place.me.0 _ c.enter.ensures.turn

pub invariant_of-seat : goal.invariant_of-seat
invariant_of-seat g c = acted_seated g.M.Machine.stands g.M.Machine.legal c.seat.inside.place.me _ _ _ c.seat.invariant c.enter.ensures.turn c.turn.ensures.legally (c.args.event.now, c.in-Ok.reply) c.in-Ok.ensures.done

pub invariant_of-seat-then-is_memory : goal.invariant_of-seat-then-is_memory
invariant_of-seat-then-is_memory g c = refused_seated g.M.Machine.stands g.M.Machine.legal c.seat.inside.place.me _ _ _ c.seat.invariant c.enter.ensures.turn c.turn.ensures.legally c.in-Err.ensures.refused.0

pub invariant_of-seat-in-Err : goal.invariant_of-seat-in-Err
invariant_of-seat-in-Err g c = refused_seated g.M.Machine.stands g.M.Machine.legal c.seat.inside.place.me _ _ _ c.seat.invariant c.enter.ensures.turn c.turn.ensures.legally c.in-Err.ensures.refused.0
