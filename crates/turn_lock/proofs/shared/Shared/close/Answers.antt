use Rattle.turn_lock.proofs.Seated.{turn_holds}
use Rattle.turn_lock.proofs.shared.Shared.close.Goals as goal

pub take_out-machine-requires-clause-turn : goal.take_out-machine-requires-clause-turn
take_out-machine-requires-clause-turn g c = turn_holds g.M.Machine.stands c.seat.inside.place.me.0 _ c.enter.ensures.turn
