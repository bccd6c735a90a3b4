use Rattle.std.proofs.Common.{◌-◌, ◌<◌, ◌≤◌, length, take}
use Rattle.httparse.specs.Grammar.{NeverHasChunkLine, MayBecomeChunkLine}
use Rattle.http_reading.proofs.size_line.first_bad.Given as goal

-- a line may begin with the good bytes, and none with the bad ones
abbrev pub invariant-loop-bad : goal.invariant-loop-bad
invariant-loop-bad l =
    (l.good < l.bad) × (l.bad ≤ length l.bytes) × MayBecomeChunkLine (take l.good l.bytes) × NeverHasChunkLine (take l.bad l.bytes)

abbrev pub decreases-loop-bad : goal.decreases-loop-bad
decreases-loop-bad l = l.bad - l.good
