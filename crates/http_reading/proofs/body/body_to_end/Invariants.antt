use Rattle.std.proofs.Common.{◌≡◌, ◌+◌, ◌*◌, ◌-◌, ◌≤◌, vec_len, cond, true}
use Rattle.http_reading.specs.Draws.{Draws}
use Rattle.http_reading.proofs.body.body_to_end.Given as goal

-- what was read, and at the end no more than a body may have
abbrev pub invariant-loop-ended : goal.invariant-loop-ended
invariant-loop-ended g l =
    Draws g.L.Link.left g.L.Link.seen g.L.Link.taken g.L.Link.met g.L.Link.dial g.L.Link.faults l.initial.link l.link l.initial.bytes.items l.bytes.items l.ended
    × (l.start ≤ vec_len l.bytes) × (l.ended ≡ true → vec_len l.bytes - l.start ≤ 1048576)

abbrev pub decreases-loop-ended : goal.decreases-loop-ended
decreases-loop-ended g l = 2 * (1048577 - (vec_len l.bytes - l.start)) + cond l.ended 0 1
