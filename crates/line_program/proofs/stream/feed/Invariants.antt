use Rattle.std.proofs.Common.{◌≡◌, ◌+◌, ◌≤◌, vec_len, length, true}
use Rattle.line_program.specs.Cuts.{is_open}
use Rattle.line_program.proofs.Feeding.{Fed}
use Rattle.line_program.proofs.stream.feed.Given as goal

abbrev pub invariant-loop-at : goal.invariant-loop-at
invariant-loop-at g l =
    Fed g.M.LineMachine.play (g.O.Sink.taken l.initial.sink) (g.O.Sink.taken l.sink) l.initial.stream l.stream l.initial.pending.items l.pending.items l.piece l.rest
    × (is_open l.pending.items ≡ true)
    × (l.stream.size + vec_len l.pending + length l.rest ≡ l.initial.stream.size + vec_len l.initial.pending + length l.piece)
    × (g.O.Sink.faults l.initial.sink ≤ g.O.Sink.faults l.sink)

abbrev pub decreases-loop-at : goal.decreases-loop-at
decreases-loop-at g l = length l.rest
