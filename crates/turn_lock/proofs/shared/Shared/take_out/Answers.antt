use Rattle.std.proofs.Common.{sym, ◌∙◌, Some}
use Rattle.turn_lock.proofs.Seated.{out_is}
use Rattle.turn_lock.proofs.shared.Shared.take_out.Goals as goal

pub exchange-requires : goal.exchange-requires
exchange-requires g c = let h = c.requires.turn in (c.requires.here ∙ sym c.self.view_is, (Some h.0, out_is _ (Some h.0) h.1))
