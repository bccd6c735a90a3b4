-- From what the parser tells of the first 16,384 bytes to the head of all of them.
use Rattle.std.proofs.Common.{◌≡◌, ℕ, ◌<◌, ◌≤◌, false, List, ◌++◌, length, take, drop, map, refl, sym, ap, ◌∙◌, subst, arith, length-take, take-append-drop, Ok}
use Rattle.std.proofs.lemmas.List.{drop-append-le, length-map, take_all}
use Rattle.httparse.specs.declared.spans.HeaderSpan.{HeaderSpan}
use Rattle.httparse.specs.declared.spans.RequestSpans.{RequestSpans}
use Rattle.httparse.specs.declared.spans.ResponseSpans.{ResponseSpans}
use Rattle.httparse.specs.declared.Status.{Status}
use Rattle.httparse.specs.declared.Status.TheVariants.{Complete, Partial}
use Rattle.httparse.specs.Outcome.{IfComplete, OnPartial, is_complete}
use Rattle.httparse.specs.Grammar.{Field, ReadsRequest, HasNoRequest, MayBecomeRequest, ReadsResponse, HasNoResponse, MayBecomeResponse}
use Rattle.http_reading.specs.Requests.{OpenHead, LongHead}
use Rattle.http_reading.specs.Responses.{OpenTop, LongTop}
use Rattle.httparse.specs.Spans.{header_bytes, name_and_value, AreFieldsAt, IsRequestWithin, IsResponseWithin, IsRequestOf, IsResponseOf}
use Rattle.httparse.proofs.GrammarLemmas.{ReadsRequest-append, ReadsResponse-append}
use Rattle.http_reading.specs.Plans.{plan_of, token_of, closes, to_end}
use Rattle.http_reading.specs.declared.plan.TheConstants.{MOST_LINE}
use Rattle.http_reading.specs.Heads.{HeadSays, HeadAt, TopAt}
use Rattle.http_reading.specs.declared.head.Head.{Head}
use Rattle.http_reading.specs.declared.top.Top.{Top}

-- what follows a head in the front, and the bytes behind the front
pub behind_front : (n len : ℕ) (bytes : List ℕ) → len ≤ length (take n bytes) → drop len (take n bytes) ++ drop n bytes ≡ drop len bytes
behind_front n len bytes inside =
    sym (drop-append-le len (take n bytes) (drop n bytes) inside) ∙ ap (drop len) (take-append-drop n bytes)

-- as many fields as headers were written
pub few_fields : (text : List ℕ) (headers : List HeaderSpan) (count most : ℕ) (fields : List Field) → length headers ≡ most
    → AreFieldsAt text headers count fields → length fields ≤ most
few_fields text headers count most fields room are =
    let sizes : length (take count headers) ≡ length fields =
    sym (length-map (take count headers) (header_bytes text)) ∙ ap length are ∙ length-map fields name_and_value in
    omega (arith, length-take count headers)

-- the head at the front of the first bytes is at the front of all
pub request_head_at : (bytes : List ℕ) (headers : List HeaderSpan) (spans : RequestSpans) (head : Head) → length headers ≡ 64
    → IsRequestWithin (take MOST_LINE bytes) headers spans → IsRequestOf (take MOST_LINE bytes) headers spans
    → HeadSays (take MOST_LINE bytes) (take spans.headers headers) spans head → HeadAt bytes head
request_head_at bytes headers spans head room within of says =
    let is = of.0 in
    let at = of.1 in
    let inside = within.section.len_fits in
    let whole : ReadsRequest bytes is (drop spans.len bytes) =
    subst (λ t. ReadsRequest t is (drop spans.len bytes)) (take-append-drop MOST_LINE bytes)
    (subst (λ t. ReadsRequest (take MOST_LINE bytes ++ drop MOST_LINE bytes) is t) (behind_front MOST_LINE spans.len bytes inside)
    (ReadsRequest-append (take MOST_LINE bytes) is (drop spans.len (take MOST_LINE bytes)) (drop MOST_LINE bytes) at.reads)) in
    record {
      is = is;
      reads = record {
        reads = subst (λ n. ReadsRequest bytes is (drop n bytes)) (sym says.size) whole;
        short = omega (arith, at.len, length-take MOST_LINE bytes);
        few = few_fields (take MOST_LINE bytes) headers spans.headers 64 is.fields room at.fields;
      };
      size = says.size ∙ at.len;
      inside = omega (arith, says.size, length-take MOST_LINE bytes);
      method = says.method ∙ at.method;
      path = says.path ∙ at.path;
      token = says.token ∙ ap token_of at.fields;
      close = says.close ∙ ap (λ n. closes n (map (header_bytes (take MOST_LINE bytes)) (take spans.headers headers))) at.version ∙ ap (closes is.minor) at.fields;
      plan = says.plan ∙ ap plan_of at.fields;
    }

-- the same of a response
pub response_head_at : (bytes : List ℕ) (headers : List HeaderSpan) (spans : ResponseSpans) (top : Top) → length headers ≡ 64
    → IsResponseWithin (take MOST_LINE bytes) headers spans → IsResponseOf (take MOST_LINE bytes) headers spans
    → top.len ≡ spans.len → top.status ≡ spans.code
    → top.plan ≡ to_end (plan_of (map (header_bytes (take MOST_LINE bytes)) (take spans.headers headers))) → TopAt bytes top
response_head_at bytes headers spans top room within of size status plan =
    let is = of.0 in
    let at = of.1 in
    let inside = within.section.len_fits in
    let whole : ReadsResponse bytes is (drop spans.len bytes) =
    subst (λ t. ReadsResponse t is (drop spans.len bytes)) (take-append-drop MOST_LINE bytes)
    (subst (λ t. ReadsResponse (take MOST_LINE bytes ++ drop MOST_LINE bytes) is t) (behind_front MOST_LINE spans.len bytes inside)
    (ReadsResponse-append (take MOST_LINE bytes) is (drop spans.len (take MOST_LINE bytes)) (drop MOST_LINE bytes) at.reads)) in
    record {
      is = is;
      reads = record {
        reads = subst (λ n. ReadsResponse bytes is (drop n bytes)) (sym size) whole;
        short = omega (arith, at.len, length-take MOST_LINE bytes);
        few = few_fields (take MOST_LINE bytes) headers spans.headers 64 is.fields room at.fields;
      };
      size = size ∙ at.len;
      inside = omega (arith, size, length-take MOST_LINE bytes);
      status = status ∙ at.code;
      plan = plan ∙ ap (λ fields. to_end (plan_of fields)) at.fields;
    }

-- ---- answers of the parser, by their cases

pub complete_is : {A : Type 0} (E : Type 0) (P : A → Type 0) (f : Status A) (x : A) → f ≡ Complete x → IfComplete {E = E} (Ok f) P → P x
complete_is E P f x e h = subst (λ s. IfComplete {E = E} (Ok s) P) e h

pub partial_is : {A : Type 0} (E P : Type 0) (f : Status A) → f ≡ Partial → OnPartial {E = E} (Ok f) P → P
partial_is E P f e h = subst (λ s. OnPartial {E = E} (Ok s) P) e h

pub open_head : (bytes text : List ℕ) → text ≡ take MOST_LINE bytes → length bytes < 16384 → HasNoRequest text → MayBecomeRequest text → OpenHead bytes
open_head bytes text e few none some =
    let all : text ≡ bytes = e ∙ take_all 16384 bytes (omega arith) in
    record { few = few; none = subst HasNoRequest all none; some = subst MayBecomeRequest all some }

pub long_head : (bytes text : List ℕ) → text ≡ take MOST_LINE bytes → 16384 ≤ length bytes → HasNoRequest text → MayBecomeRequest text → LongHead bytes
long_head bytes text e many none some =
    record { many = many; none = subst HasNoRequest e none; some = subst MayBecomeRequest e some }

pub open_top : (bytes text : List ℕ) → text ≡ take MOST_LINE bytes → length bytes < 16384 → HasNoResponse text → MayBecomeResponse text → OpenTop bytes
open_top bytes text e few none some =
    let all : text ≡ bytes = e ∙ take_all 16384 bytes (omega arith) in
    record { few = few; none = subst HasNoResponse all none; some = subst MayBecomeResponse all some }

pub long_top : (bytes text : List ℕ) → text ≡ take MOST_LINE bytes → 16384 ≤ length bytes → HasNoResponse text → MayBecomeResponse text → LongTop bytes
long_top bytes text e many none some =
    record { many = many; none = subst HasNoResponse e none; some = subst MayBecomeResponse e some }

pub not_complete : {A : Type 0} (f : Status A) → is_complete f ≡ false → f ≡ Partial
not_complete (Complete x) e = let never : ⊥ = cc in absurd never
not_complete Partial e = refl
