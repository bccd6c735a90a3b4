use Rattle.std.proofs.Common.{subst, inl, take}
use Rattle.httparse.specs.declared.Error.{Error}
use Rattle.httparse.specs.Grammar.{HasNoRequest, MayBecomeRequest}
use Rattle.httparse.specs.Spans.{IsRequestWithin, IsRequestOf}
use Rattle.http_reading.specs.Heads.{HeadSays}
use Rattle.http_reading.proofs.HeadLemmas.{request_head_at, open_head, long_head, complete_is, partial_is}
use Rattle.http_reading.proofs.head.parse_head.Goals as goal

pub returns-in_ok-head-in-Ok-Complete-clause-ok : goal.returns-in_ok-head-in-Ok-Complete-clause-ok
returns-in_ok-head-in-Ok-Complete-clause-ok c =
    let e = c.in-Ok-Complete.ensures in
    let text = c.front-text.result.now in
    let headers = c.parse_request.new.headers in
    let spans = c.in-Ok-Complete.spans in
    let is = c.front-text.ensures in
    let t1 = c.in-Ok-Complete.field-0-is in
    let t2 = c.in-Ok-Complete.spans-is in
    request_head_at c.args.bytes.now headers spans c.in_ok-head-in-Ok-Complete.head c.parse_request.auto.headers
    (subst (λ t. IsRequestWithin t headers spans) is (complete_is Error (IsRequestWithin text headers) c.in-Ok-Complete.field-0 spans t1 e.within))
    (subst (λ t. IsRequestOf t headers spans) is (complete_is Error (IsRequestOf text headers) c.in-Ok-Complete.field-0 spans t1 e.complete))
    (subst (λ t. HeadSays t (take spans.headers headers) spans c.in_ok-head-in-Ok-Complete.head) is c.in_ok-head-in-Ok-Complete.ensures.ok)

pub returns-then-bytes-lt-MOST_LINE-clause-ok : goal.returns-then-bytes-lt-MOST_LINE-clause-ok
returns-then-bytes-lt-MOST_LINE-clause-ok c =
    let p = c.in-Ok-Partial in
    let text = c.front-text.result.now in
    open_head c.args.bytes.now text c.front-text.ensures c.if-bytes-lt-MOST_LINE.true
    (partial_is Error (HasNoRequest text) p.field-0 p.field-0-is p.ensures.partial) (partial_is Error (MayBecomeRequest text) p.field-0 p.field-0-is p.ensures.unfinished)

pub returns-else-bytes-lt-MOST_LINE-clause-err : goal.returns-else-bytes-lt-MOST_LINE-clause-err
returns-else-bytes-lt-MOST_LINE-clause-err c =
    let p = c.in-Ok-Partial in
    let text = c.front-text.result.now in (
      λ e. let never : ⊥ = cc in absurd never,
      λ ended. inl (long_head c.args.bytes.now text c.front-text.ensures c.if-bytes-lt-MOST_LINE.false
          (partial_is Error (HasNoRequest text) p.field-0 p.field-0-is p.ensures.partial) (partial_is Error (MayBecomeRequest text) p.field-0 p.field-0-is p.ensures.unfinished)),
    )
