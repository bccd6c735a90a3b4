use Rattle.std.proofs.Common.{length}
use Rattle.spool_text.proofs.Progress.{Reads}
use Rattle.spool_text.proofs.reading.read_spool.Given as goal

abbrev pub invariant-loop-rest : goal.invariant-loop-rest
invariant-loop-rest l = Reads l.bytes l.done l.items l.seen.keys l.rest

abbrev pub decreases-loop-rest : goal.decreases-loop-rest
decreases-loop-rest l = length l.rest
