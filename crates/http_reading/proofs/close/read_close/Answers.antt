use Rattle.std.proofs.Common.{arith, subst, ap, length, MatchBool}
use Rattle.std.proofs.lemmas.Result.{err_from_is_err_and}
use Rattle.http_reading.specs.ChunkReads.{CloseFault, OpenAt, ClosedAt}
use Rattle.http_reading.proofs.DrawLemmas.{fails_after}
use Rattle.http_reading.proofs.OuterLemmas.{outer_close}
use Rattle.http_reading.proofs.CloseLemmas.{open_short}
use Rattle.http_reading.proofs.close.read_close.Goals as goal

pub returns-in_err-fill-clause-err : goal.returns-in_err-fill-clause-err
returns-in_err-fill-clause-err g c =
    let p = err_from_is_err_and c.from_residual-in_err-fill.result c.from_residual-in_err-fill.ensures.1 in
    rw (p.1, p.2) (fails_after (CloseFault c.args.end) c.loop-link.invariant c.in_err-fill.ensures.err
    (λ holds f is. outer_close c.args.end holds _ _ is))

pub loop-link-smaller : goal.loop-link-smaller
loop-link-smaller g c =
    let may : OpenAt c.as_slice.result.now c.args.end = subst (λ b. MatchBool b (ClosedAt c.as_slice.result.now c.args.end) (OpenAt c.as_slice.result.now c.args.end)) c.if-not-branch.true c.in_ok-closed_at.ensures.ok in
    let few = open_short c.as_slice.result.now c.args.end may in
    let same = ap length c.as_slice.ensures.value in
    let more = c.in_ok-fill.ensures.ok.some c.if-branch.false in
    omega arith
