use Rattle.std.proofs.Common.{ℕ, List, Option, Some, None, arith}
use Rattle.std.specs.Io.KnownBytes.{Consumes, Keeps}
use Rattle.outside.proofs.KnownLemmas.{consumes_both}
use Rattle.line_program.proofs.Feeding.{goes_both, goes_to, front_gone}
use Rattle.line_program.proofs.stream.read_all.Goals as goal

-- bytes that were kept were consumed by no byte more
consumes_kept : (old mid new : Option (List ℕ)) (xs : List ℕ) → Consumes old mid xs → Keeps mid new → Consumes old new xs
consumes_kept None mid new xs first kept = tt
consumes_kept (Some xs0) None new xs first kept = absurd first
consumes_kept (Some xs0) (Some ys0) None xs first kept = absurd kept
consumes_kept (Some xs0) (Some ys0) (Some zs0) xs first kept = rw kept first

pub returns-in-Err-clause-err : goal.returns-in-Err-clause-err
returns-in-Err-clause-err g c =
    let read = c.loop-count.invariant.0 in
    (read.0, consumes_kept _ _ _ _ read.1 c.in-Err.ensures.bytes, front_gone g.M.LineMachine.play _ _ _ _ _ _ _ read.2)

pub loop-count-preserved : goal.loop-count-preserved
loop-count-preserved g c =
    let read = c.loop-count.invariant.0 in (
      (_, consumes_both _ _ _ _ _ read.1 c.in-Ok.ensures.bytes.0, goes_both g.M.LineMachine.play _ _ _ _ _ _ _ _ _ _ _ read.2 c.in-Ok-feed_within.ensures.ok),
      c.in-Ok-feed_within.ensures.one,
      c.in-Ok-feed_within.ensures.within,
      omega arith,
      omega arith,
    )

pub returns-in-Err-feed_within-clause-err : goal.returns-in-Err-feed_within-clause-err
returns-in-Err-feed_within-clause-err g c =
    let read = c.loop-count.invariant.0 in
    (_, consumes_both _ _ _ _ _ read.1 c.in-Ok.ensures.bytes.0, goes_to g.M.LineMachine.play _ _ _ _ _ _ _ _ _ _ _ read.2 c.in-Err-feed_within.ensures.err)
