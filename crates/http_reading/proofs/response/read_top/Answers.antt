use Rattle.std.proofs.Common.{subst}
use Rattle.std.proofs.lemmas.Result.{err_from_is_err_and}
use Rattle.http_reading.specs.Heads.{TopAt, TopRefused}
use Rattle.http_reading.specs.Responses.{TopFault}
use Rattle.httparse.specs.Grammar.{HasNoResponse}
use Rattle.http_reading.proofs.DrawLemmas.{draws_on, fails_here, fails_after}
use Rattle.http_reading.proofs.OuterLemmas.{outer_top}
use Rattle.http_reading.proofs.LineEndLemmas.{response_line, not_some}
use Rattle.http_reading.proofs.response.read_top.Goals as goal

pub returns-in_err-top-clause-err : goal.returns-in_err-top-clause-err
returns-in_err-top-clause-err g c =
    let p = err_from_is_err_and c.from_residual.result c.from_residual.ensures.1 in
    let refused = subst (λ t. TopRefused t c.in_err-top.field-0.0) c.as_slice.ensures.value c.in_err-top.ensures.err in
    rw (p.1, p.2) (fails_here TopFault c.in_err-top.field-0.0 c.loop-top.invariant.0 refused.0 (refused.1 c.loop-top.ended))

pub returns-in_err-ended-clause-err : goal.returns-in_err-ended-clause-err
returns-in_err-ended-clause-err g c =
    let p = err_from_is_err_and c.from_residual-in_err-ended.result c.from_residual-in_err-ended.ensures.1 in
    rw (p.1, p.2) (fails_after TopFault c.loop-top.invariant.0 c.in_err-ended.ensures.err (λ holds f is. outer_top holds _ _ is))

pub loop-top-preserved : goal.loop-top-preserved
loop-top-preserved g c =
    let open_top = not_some (TopAt c.as_slice.result.now) c.in_ok-top.field-0 c.in_default.not-Some c.in_ok-top.ensures.ok in
    let none = subst HasNoResponse c.as_slice.ensures.value open_top.none in (
      draws_on c.loop-top.invariant.0 c.if-ended.false c.in_ok-ended.ensures.ok.draws,
      λ ended. response_line c.loop-top.bytes.items c.fill_line.new.bytes.items none (c.in_ok-ended.ensures.same ended),
    )
