use Rattle.std.proofs.Common.{◌-◌, ◌≤◌, vec_len, false}
use Rattle.http_reading.specs.Draws.{Draws}
use Rattle.http_reading.proofs.body.sized_body.Given as goal

-- what was read
abbrev pub invariant-loop-link : goal.invariant-loop-link
invariant-loop-link g l =
    Draws g.L.Link.left g.L.Link.seen g.L.Link.taken g.L.Link.met g.L.Link.dial g.L.Link.faults l.initial.link l.link l.initial.bytes.items l.bytes.items false
    × (l.start ≤ vec_len l.bytes)

abbrev pub decreases-loop-link : goal.decreases-loop-link
decreases-loop-link g l = l.count - (vec_len l.bytes - l.start)
