use Rattle.std.proofs.Common.{◌-◌, ◌≤◌, vec_len, false}
use Rattle.http_reading.specs.Draws.{Draws, SameLine}
use Rattle.http_reading.proofs.fill.fill_line.Given as goal

-- what was read, that the bytes did not become fewer, and that no line ended in what came
abbrev pub invariant-loop-bytes : goal.invariant-loop-bytes
invariant-loop-bytes g l =
    Draws g.L.Link.left g.L.Link.seen g.L.Link.taken g.L.Link.met g.L.Link.dial g.L.Link.faults l.initial.link l.link l.initial.bytes.items l.bytes.items false
    × (l.tried ≤ vec_len l.bytes) × (l.start ≤ l.tried) × SameLine l.initial.bytes.items l.bytes.items

abbrev pub decreases-loop-bytes : goal.decreases-loop-bytes
decreases-loop-bytes g l = 16384 - (vec_len l.bytes - l.start)
