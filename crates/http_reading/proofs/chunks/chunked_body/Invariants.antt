use Rattle.std.proofs.Common.{◌-◌, ◌≤◌, vec_len}
use Rattle.http_reading.proofs.ChunkedLemmas.{SoFar}
use Rattle.http_reading.proofs.chunks.chunked_body.Given as goal

-- whole chunks were read
abbrev pub invariant-loop-body : goal.invariant-loop-body
invariant-loop-body g l =
    SoFar g.L.Link.left g.L.Link.seen g.L.Link.taken g.L.Link.met g.L.Link.dial g.L.Link.faults l.initial.link l.link l.initial.bytes.items l.bytes.items l.start l.at l.body.items
    × (vec_len l.body ≤ 1048576)

abbrev pub decreases-loop-body : goal.decreases-loop-body
decreases-loop-body g l = 1048576 - vec_len l.body
