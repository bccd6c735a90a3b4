-- Bytes begin with at most one request, and those that begin with one have no fault.
use Rattle.std.proofs.Common.{◌≡◌, ℕ, ◌-◌, ◌≤◌, Bool, false, List, [], ◌∷◌, ◌++◌, length, take, drop, refl, sym, ap, ◌∙◌, subst, arith, take-append-drop, length-append, inl, inr}
use Rattle.std.proofs.lemmas.List.{take_all}
use Rattle.httparse.specs.Grammar.{RequestHead, print_request, ReadsRequest, NeverHasRequest, MayBecomeRequest}
use Rattle.httparse.specs.Pieces.{Completes, BlankLines}
use Rattle.httparse.specs.Spans.{RequestExceeds}
use Rattle.httparse.proofs.GrammarLemmas.{request_unique, print_request-append}
use Rattle.httparse.proofs.OpenLemmas.{line_blank, request_may_from_line}
use Rattle.http_reading.specs.Draws.{IsOutside}
use Rattle.http_reading.specs.Plans.{plan_of, token_of, closes, fields_of}
use Rattle.http_reading.specs.declared.plan.TheConstants.{MOST_LINE}
use Rattle.http_reading.specs.Bodies.{ReadsBody}
use Rattle.http_reading.specs.Requests.{ReadsHead, HeadFault}
use Rattle.http_reading.specs.Laws.{OneRequest, NoFault, NoneNoFault}
use Rattle.http_reading.specs.declared.fault.HttpFault.{HttpFault}
use Rattle.http_reading.specs.declared.fault.HttpFault.TheVariants.{Ended, BadHead, TooLarge, BadBody, LinkFault, NoMemory}
use Rattle.http_reading.proofs.UniqueLemmas.{body_same, body_no_fault, take_past}

pub one_request : OneRequest
one_request bytes first second rest other x y =
    let heads = request_unique bytes x.head y.head x.behind y.behind x.reads.reads y.reads.reads in
    let plan = λ (h : RequestHead). plan_of (fields_of h.fields) in
    let second_body = subst (λ h. ReadsBody (plan h) x.behind false second.body other) (sym heads.0)
    (subst (λ b. ReadsBody (plan y.head) b false second.body other) (sym heads.1) y.body) in
    let bodies = body_same (plan x.head) x.behind false first.body second.body rest other x.body second_body in
    let method : first.method ≡ second.method = x.method ∙ ap (λ (h : RequestHead). h.method) heads.0 ∙ sym y.method in
    let path : first.path ≡ second.path = x.path ∙ ap (λ (h : RequestHead). h.target) heads.0 ∙ sym y.path in
    let token : first.token ≡ second.token = x.token ∙ ap (λ (h : RequestHead). token_of (fields_of h.fields)) heads.0 ∙ sym y.token in
    let close : first.close ≡ second.close = x.close ∙ ap (λ (h : RequestHead). closes h.minor (fields_of h.fields)) heads.0 ∙ sym y.close in
    (λ i. record { method = method i; path = path i; token = token i; close = close i; body = bodies.0 i }, bodies.1)

whole_again : (n : ℕ) (bytes : List ℕ) (h : RequestHead) (behind : List ℕ) → ReadsRequest bytes h behind → ReadsRequest (take n bytes ++ drop n bytes) h behind
whole_again n bytes h behind x = subst (λ t. ReadsRequest t h behind) (sym (take-append-drop n bytes)) x

pub head_no_fault : (bytes : List ℕ) (head : RequestHead) (behind : List ℕ) (ended : Bool) (fault : HttpFault) → ReadsHead bytes head behind → HeadFault bytes ended fault → IsOutside fault
head_no_fault bytes head behind ended (Ended taken) x h = absurd (h.3.none head behind x.reads)
head_no_fault bytes head behind ended BadHead x h = absurd (h (drop MOST_LINE bytes) head behind (whole_again MOST_LINE bytes head behind x.reads))
head_no_fault bytes head behind ended TooLarge x (inl h) =
    absurd (h.none head (take (MOST_LINE - length (print_request head)) behind)
    (x.reads.0, ap (take MOST_LINE) x.reads.1 ∙ take_past MOST_LINE (print_request head) behind x.short))
head_no_fault bytes head behind ended TooLarge x (inr h) =
    absurd (omega (arith, x.few, h.none (drop MOST_LINE bytes) head behind (whole_again MOST_LINE bytes head behind x.reads)))
head_no_fault bytes head behind ended (BadBody place) x h = absurd h
head_no_fault bytes head behind ended LinkFault x h = inl refl
head_no_fault bytes head behind ended NoMemory x h = inr refl

pub no_fault : NoFault
no_fault bytes request rest ended fault x (inl h) = head_no_fault bytes x.head x.behind ended fault x.reads h
no_fault bytes request rest ended fault x (inr h) =
    let heads = request_unique bytes x.head h.head x.behind h.behind x.reads.reads h.reads.reads in
    let plan = λ (k : RequestHead). plan_of (fields_of k.fields) in
    body_no_fault (plan h.head) (length (print_request h.head)) h.behind request.body rest ended fault
    (subst (λ k. ReadsBody (plan k) h.behind false request.body rest) heads.0
    (subst (λ b. ReadsBody (plan x.head) b false request.body rest) heads.1 x.body))
    h.is

-- a head has a method and a blank at least
request_long : (bytes : List ℕ) (h : RequestHead) (rest : List ℕ) → ReadsRequest bytes h rest → 2 ≤ length bytes
request_long bytes h rest x = omega (arith, ap length (x.1 ∙ print_request-append h rest), x.0.method.0, length-append {A = ℕ})

no_lines : Completes BlankLines []
no_lines = record { more = []; tree = []; reads = λ rest. refl }

-- a request may begin with no byte
may_begin : NeverHasRequest [] → ⊥
may_begin never = go (request_may_from_line (inl (line_blank no_lines)))
  where
    go : MayBecomeRequest [] → ⊥
    go (inl (more, h, reads)) = never more h [] reads
    go (inr (blank, method, target, token, pass, e)) = omega (arith, ap length e, length-append {A = ℕ})

take_none : (n : ℕ) → ◌≡◌ {A = List ℕ} (take n []) []
take_none n = take_all n [] (omega arith)

none_head : (ended : Bool) (fault : HttpFault) → HeadFault [] ended fault → IsOutside fault
none_head ended (Ended taken) h = absurd (omega (arith, h.1, h.2))
none_head ended BadHead h = absurd (may_begin (subst NeverHasRequest (take_none MOST_LINE) h))
none_head ended TooLarge (inl h) = absurd (omega (arith, h.many))
none_head ended TooLarge (inr h) =
    let some = subst (RequestExceeds 64) (take_none MOST_LINE) h.some in
    absurd (omega (arith, ap length some.2, request_long (some.0 ++ 10 ∷ []) some.3 [] some.4, length-append {A = ℕ}))
none_head ended (BadBody place) h = absurd h
none_head ended LinkFault h = inl refl
none_head ended NoMemory h = inr refl

pub none_no_fault : NoneNoFault
none_no_fault ended fault (inl h) = none_head ended fault h
none_no_fault ended fault (inr h) = absurd (omega (arith, request_long [] h.head h.behind h.reads.reads))
