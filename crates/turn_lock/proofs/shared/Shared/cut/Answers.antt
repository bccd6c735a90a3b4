use Rattle.std.proofs.Common.{sym, ◌∙◌, arith}
use Rattle.turn_lock.proofs.Meeting.{cuts}
use Rattle.turn_lock.proofs.shared.Shared.cut.Goals as goal

pub split_seat-requires : goal.split_seat-requires
split_seat-requires g c =
    let given = c.requires.given in (
      c.requires.here ∙ sym c.self.view_is,
      (let w = c.self.invariant.0 in omega arith),
      cuts g.M.Machine.stands (g.M.Machine.opening c.self.inside.table.shared.key.value) _ _ g.J.Given.parts (let p = c.requires.some_part in omega arith) (let p = c.requires.fewer in omega arith),
    )
