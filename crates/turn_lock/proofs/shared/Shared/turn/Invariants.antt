use Rattle.std.proofs.Common.{Some}
use Rattle.turn_lock.proofs.shared.Shared.turn.Given as goal

abbrev pub ghosts-count : goal.ghosts-count
ghosts-count g a = record { entry = Some (a.event.now, a.reply.now) }
