use Rattle.std.proofs.Common.{◌≡◌, true, ◌+◌, ◌*◌, ◌-◌, vec_len, cond}
use Rattle.httparse.specs.Grammar.{HasNoResponse}
use Rattle.http_reading.specs.Draws.{Draws}
use Rattle.http_reading.proofs.response.read_top.Given as goal

-- what was read, and that it holds no response where the link has ended
abbrev pub invariant-loop-top : goal.invariant-loop-top
invariant-loop-top g l =
    Draws g.L.Link.left g.L.Link.seen g.L.Link.taken g.L.Link.met g.L.Link.dial g.L.Link.faults l.initial.link l.link l.initial.bytes.items l.bytes.items l.ended
    × (l.ended ≡ true → HasNoResponse l.bytes.items)

abbrev pub decreases-loop-top : goal.decreases-loop-top
decreases-loop-top g l = 2 * (16384 - vec_len l.bytes) + cond l.ended 0 1
