use Rattle.std.proofs.lemmas.Result.{err_from_is_err_and}
use Rattle.http_reading.proofs.DrawLemmas.{fails_after}
use Rattle.http_reading.specs.Draws.{Outer}
use Rattle.http_reading.proofs.fill.fill_line.Goals as goal

pub returns-in_err-fill-clause-err : goal.returns-in_err-fill-clause-err
returns-in_err-fill-clause-err g c =
    let p = err_from_is_err_and c.from_residual.result c.from_residual.ensures.1 in
    rw (p.1, p.2) (fails_after Outer c.loop-bytes.invariant.0 c.in_err-fill.ensures.err (λ holds f is. is))
