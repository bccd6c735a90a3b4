use Rattle.std.proofs.Common.{◌≡◌, ◌+◌, ◌-◌, ◌≤◌, ℕ, List, vec_len, true}
use Rattle.std.specs.Io.KnownBytes.{Consumes}
use Rattle.line_program.specs.Cuts.{is_open}
use Rattle.line_program.specs.Progress.{Goes}
use Rattle.line_program.specs.declared.limits.TheConstants.{LAST_INPUT_BYTES}
use Rattle.line_program.proofs.stream.read_all.Given as goal

abbrev pub invariant-loop-count : goal.invariant-loop-count
invariant-loop-count g l =
    ((bytes : List ℕ) × Consumes (g.S.Source.left l.initial.source) (g.S.Source.left l.source) bytes
    × Goes g.M.LineMachine.play (g.O.Sink.taken l.initial.sink) (g.O.Sink.taken l.sink) l.initial.stream l.stream l.initial.pending.items l.pending.items bytes)
    × (is_open l.pending.items ≡ true)
    × (l.stream.size + vec_len l.pending ≤ LAST_INPUT_BYTES)
    × (g.S.Source.faults l.initial.source ≤ g.S.Source.faults l.source)
    × (g.O.Sink.faults l.initial.sink ≤ g.O.Sink.faults l.sink)

abbrev pub decreases-loop-count : goal.decreases-loop-count
decreases-loop-count g l = LAST_INPUT_BYTES - (l.stream.size + vec_len l.pending)
