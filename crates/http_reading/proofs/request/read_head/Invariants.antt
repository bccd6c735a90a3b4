use Rattle.std.proofs.Common.{◌≡◌, true, ◌+◌, ◌*◌, ◌-◌, vec_len, cond}
use Rattle.httparse.specs.Grammar.{HasNoRequest}
use Rattle.http_reading.specs.Draws.{Draws}
use Rattle.http_reading.proofs.request.read_head.Given as goal

-- what was read, and that it holds no request where the link has ended
abbrev pub invariant-loop-head : goal.invariant-loop-head
invariant-loop-head g l =
    Draws g.L.Link.left g.L.Link.seen g.L.Link.taken g.L.Link.met g.L.Link.dial g.L.Link.faults l.fn.link l.link l.fn.bytes.items l.bytes.items l.ended
    × (l.ended ≡ true → HasNoRequest l.bytes.items)

abbrev pub decreases-loop-head : goal.decreases-loop-head
decreases-loop-head g l = 2 * (16384 - vec_len l.bytes) + cond l.ended 0 1
