use Rattle.std.proofs.Common.{◌-◌, take, drop, subst, ap, arith, length, length-append}
use Rattle.std.proofs.lemmas.List.{take_rest}
use Rattle.std.proofs.lemmas.Result.{err_from_is_err_and}
use Rattle.http_reading.specs.ChunkReads.{LineAt, SizeFault}
use Rattle.httparse.specs.Grammar.{HasNoChunkLine}
use Rattle.http_reading.proofs.DrawLemmas.{draws_on, fails_after}
use Rattle.http_reading.proofs.OuterLemmas.{outer_tail}
use Rattle.http_reading.proofs.LineEndLemmas.{chunk_line, same_behind, not_some}
use Rattle.http_reading.proofs.size_line.read_size.Goals as goal

pub returns-in_err-ended-clause-err : goal.returns-in_err-ended-clause-err
returns-in_err-ended-clause-err g c =
    let p = err_from_is_err_and c.from_residual-in_err-ended.result c.from_residual-in_err-ended.ensures.1 in
    rw (p.1, p.2) (fails_after (SizeFault c.args.at) c.loop-line.invariant.0 c.in_err-ended.ensures.err
    (λ holds f is before. outer_tail c.args.at before _ _ _ is))

pub loop-line-preserved : goal.loop-line-preserved
loop-line-preserved g c =
    let at = c.args.at in
    let held = c.loop-line.bytes.items in
    let holds = c.fill_line.new.bytes.items in
    let came = c.in_ok-ended.ensures.ok.draws in
    let text = c.deref.result.now in
    let open_line = not_some (LineAt (take (length text - at) (drop at text))) c.in_ok-line.field-0 c.in_default.not-Some c.in_ok-line.ensures.ok in
    let none = subst (λ t. HasNoChunkLine (drop at t)) c.deref.ensures.value (subst HasNoChunkLine (take_rest text at) open_line.none) in (
      draws_on c.loop-line.invariant.0 c.if-ended.false came,
      omega (arith, c.loop-line.invariant.1, ap length came.grown, length-append held came.bytes),
      λ ended. chunk_line (drop at held) (drop at holds) none (same_behind at held holds (omega (arith, c.loop-line.invariant.1)) (c.in_ok-ended.ensures.same ended)),
    )
