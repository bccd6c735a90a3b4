use Rattle.std.proofs.Common.{sym}
use Rattle.line_program.proofs.CutLemmas.{content_open}
use Rattle.line_program.proofs.Feeding.{large_pending}
use Rattle.line_program.proofs.stream.feed_within.Goals as goal

pub returns-else-is_small-clause-err : goal.returns-else-is_small-clause-err
returns-else-is_small-clause-err g c =
    large_pending g.M.LineMachine.play _ _ _ _ _ _ _ c.in-Ok.ensures.ok c.in-Ok.ensures.one
    (rw (content_open c.feed.new.pending.items c.in-Ok.ensures.one) (rw (← c.as_slice-part.ensures.value) (sym c.if-is_small.ensures.value)))
