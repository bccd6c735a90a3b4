use Rattle.std.proofs.Common.{subst, inl, refl, ap, ◌∙◌, map, take}
use Rattle.httparse.specs.declared.Error.{Error}
use Rattle.httparse.specs.Grammar.{HasNoResponse, MayBecomeResponse}
use Rattle.httparse.specs.Spans.{IsResponseWithin, IsResponseOf}
use Rattle.httparse.specs.Spans.{header_bytes}
use Rattle.http_reading.specs.Plans.{plan_of, to_end}
use Rattle.http_reading.proofs.HeadLemmas.{response_head_at, open_top, long_top, complete_is, partial_is}
use Rattle.http_reading.proofs.top.parse_top.Goals as goal

pub returns-in-Ok-Complete-clause-ok : goal.returns-in-Ok-Complete-clause-ok
returns-in-Ok-Complete-clause-ok c =
    let e = c.in-Ok-Complete.ensures in
    let text = c.front-text.result.now in
    let headers = c.parse_response.new.headers in
    let spans = c.in-Ok-Complete.spans in
    let is = c.front-text.ensures in
    let t1 = c.in-Ok-Complete.field-0-is in
    response_head_at c.args.bytes.now headers spans _ c.parse_response.auto.headers
    (subst (λ t. IsResponseWithin t headers spans) is (complete_is Error (IsResponseWithin text headers) c.in-Ok-Complete.field-0 spans t1 e.within))
    (subst (λ t. IsResponseOf t headers spans) is (complete_is Error (IsResponseOf text headers) c.in-Ok-Complete.field-0 spans t1 e.complete))
    refl refl
    (c.of_response.ensures ∙ ap to_end c.plan_of.ensures ∙ ap (λ t. to_end (plan_of (map (header_bytes t) (take spans.headers headers)))) is)

pub returns-then-bytes-lt-MOST_LINE-clause-ok : goal.returns-then-bytes-lt-MOST_LINE-clause-ok
returns-then-bytes-lt-MOST_LINE-clause-ok c =
    let p = c.in-Ok-Partial in
    let text = c.front-text.result.now in
    open_top c.args.bytes.now text c.front-text.ensures c.if-bytes-lt-MOST_LINE.true
    (partial_is Error (HasNoResponse text) p.field-0 p.field-0-is p.ensures.partial) (partial_is Error (MayBecomeResponse text) p.field-0 p.field-0-is p.ensures.unfinished)

pub returns-else-bytes-lt-MOST_LINE-clause-err : goal.returns-else-bytes-lt-MOST_LINE-clause-err
returns-else-bytes-lt-MOST_LINE-clause-err c =
    let p = c.in-Ok-Partial in
    let text = c.front-text.result.now in (
      λ e. let never : ⊥ = cc in absurd never,
      λ ended. inl (long_top c.args.bytes.now text c.front-text.ensures c.if-bytes-lt-MOST_LINE.false
          (partial_is Error (HasNoResponse text) p.field-0 p.field-0-is p.ensures.partial) (partial_is Error (MayBecomeResponse text) p.field-0 p.field-0-is p.ensures.unfinished)),
    )
