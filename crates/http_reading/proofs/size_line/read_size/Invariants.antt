use Rattle.std.proofs.Common.{◌≡◌, true, drop, ◌+◌, ◌*◌, ◌-◌, ◌≤◌, vec_len, cond}
use Rattle.httparse.specs.Grammar.{HasNoChunkLine}
use Rattle.http_reading.specs.Draws.{Draws}
use Rattle.http_reading.proofs.size_line.read_size.Given as goal

-- what was read, and that it holds no line where the link has ended
abbrev pub invariant-loop-line : goal.invariant-loop-line
invariant-loop-line g l =
    Draws g.L.Link.left g.L.Link.seen g.L.Link.taken g.L.Link.met g.L.Link.dial g.L.Link.faults l.initial.link l.link l.initial.bytes.items l.bytes.items l.ended
    × (l.at ≤ vec_len l.bytes) × (l.ended ≡ true → HasNoChunkLine (drop l.at l.bytes.items))

abbrev pub decreases-loop-line : goal.decreases-loop-line
decreases-loop-line g l = 2 * (16384 - (vec_len l.bytes - l.at)) + cond l.ended 0 1
