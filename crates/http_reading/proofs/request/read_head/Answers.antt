use Rattle.std.proofs.Common.{◌≡◌, [], length, rules, subst, sym}
use Rattle.std.proofs.lemmas.Result.{err_from_is_err_and}
use Rattle.http_reading.specs.Heads.{HeadAt, HeadRefused}
use Rattle.http_reading.specs.Requests.{HeadFault}
use Rattle.httparse.specs.Grammar.{HasNoRequest}
use Rattle.http_reading.proofs.DrawLemmas.{draws_none, draws_on, fails_here, fails_after, fails_as}
use Rattle.http_reading.proofs.OuterLemmas.{outer_head}
use Rattle.http_reading.proofs.LineEndLemmas.{request_line, request_nowhere, not_some}
use Rattle.http_reading.proofs.ChunkLemmas.{empty_list}
use Rattle.http_reading.proofs.request.read_head.Goals.{then-is_empty+in_ok-ended, else-is_empty}
use Rattle.http_reading.proofs.request.read_head.Goals as goal

pub returns-in_err-head-clause-err : goal.returns-in_err-head-clause-err
returns-in_err-head-clause-err g c =
    let p = err_from_is_err_and c.from_residual-in_err-head.result c.from_residual-in_err-head.ensures.1 in
    let refused = subst (λ t. HeadRefused t c.in_err-head.field-0.0) c.as_slice.ensures.value c.in_err-head.ensures.err in
    rw (p.1, p.2) (fails_here HeadFault c.in_err-head.field-0.0 c.loop-head.invariant.0 refused.0 (refused.1 c.loop-head.ended))

pub returns-in_err-ended-clause-err : goal.returns-in_err-ended-clause-err
returns-in_err-ended-clause-err g c =
    let p = err_from_is_err_and c.from_residual.result c.from_residual.ensures.1 in
    rw (p.1, p.2) (fails_as HeadFault c.in_err-ended.ensures.err (λ holds f is. outer_head holds _ _ is))

pub returns-in_err-ended-2-clause-err : goal.returns-in_err-ended-2-clause-err
returns-in_err-ended-2-clause-err g c =
    let p = err_from_is_err_and c.from_residual-in_err-ended-2.result c.from_residual-in_err-ended-2.ensures.1 in
    rw (p.1, p.2) (fails_after HeadFault c.loop-head.invariant.0 c.in_err-ended-2.ensures.err (λ holds f is. outer_head holds _ _ is))

pub loop-head-init : goal.loop-head-init
loop-head-init g c = elim c.if-is_empty.branch [
  | then-is_empty+in_ok-ended w ↦
      let size : length c.args.bytes.now.items ≡ 0 = search rules in
      let nothing : c.args.bytes.now.items ≡ [] = empty_list c.args.bytes.now.items size in
      rw (w.link-is, w.bytes-is, w.ended-is) (
        w.in_ok-ended.ensures.ok.draws,
        λ ended. request_line c.args.bytes.now.items w.fill_line.new.bytes.items (subst HasNoRequest (sym nothing) request_nowhere) (w.in_ok-ended.ensures.same ended),
      )
  | else-is_empty w ↦
      rw (w.link-is, w.bytes-is, w.ended-is, w.if-is_empty.false) (draws_none c.args.link.now c.args.bytes.now.items, λ ended. absurd (let never : ⊥ = cc in never))
]

pub loop-head-preserved : goal.loop-head-preserved
loop-head-preserved g c =
    let open_head = not_some (HeadAt c.as_slice.result.now) c.in_ok-head.field-0 c.in_default.not-Some c.in_ok-head.ensures.ok in
    let none = subst HasNoRequest c.as_slice.ensures.value open_head.none in (
      draws_on c.loop-head.invariant.0 c.if-ended.false c.in_ok-ended-2.ensures.ok.draws,
      λ ended. request_line c.loop-head.bytes.items c.fill_line-in-loop-head.new.bytes.items none (c.in_ok-ended-2.ensures.same ended),
    )
