-- From the bytes that a call read to all that the buffer and the link have.
use Rattle.std.proofs.Common.{◌≡◌, ℕ, Bool, true, false, List, [], ◌∷◌, ◌++◌, ◌||◌, length, Option, Some, None, IfSome, MatchOption, refl, sym, ap, ◌∙◌, subst, append_assoc, inl, inr}
use Rattle.std.specs.Prelude.{IsNone}
use Rattle.httparse.specs.Grammar.{print_request}
use Rattle.std.specs.Io.KnownBytes.{Consumes}
use Rattle.http_reading.specs.Draws.{Fails}
use Rattle.http_reading.specs.Requests.{Reads, HasFault, Took, stream, TakesNone, TakesRequest, FaultOf, IsEnd}
use Rattle.http_reading.specs.Plans.{plan_of, fields_of}
use Rattle.http_reading.specs.Bodies.{BodyFault}
use Rattle.http_reading.specs.declared.plan.BodyPlan.{BodyPlan}
use Rattle.http_reading.specs.declared.plan.BodyPlan.TheVariants.{Empty, Sized, Chunked, ToEnd, Bad, TooLarge as Huge}
use Rattle.http_reading.specs.declared.fault.HttpFault.TheVariants.{Ended}
use Rattle.http_reading.specs.declared.request.Request.{Request}
use Rattle.http_reading.specs.declared.fault.HttpFault.{HttpFault}
use Rattle.http_reading.proofs.GrowLemmas.{Reads-append, HasFault-append}

append_same : (xs ys : List ℕ) → xs ++ ys ≡ xs → ys ≡ []
append_same [] ys e = e
append_same (x ∷ xs) ys e = append_same xs ys (cc)

both_none : (xs ys : List ℕ) → xs ++ ys ≡ [] → (xs ≡ []) × (ys ≡ [])
both_none [] ys e = (refl, e)
both_none (x ∷ xs) ys e = let never : ⊥ = cc in absurd never

-- the stream is what is held now, and what is left
stream_is : (held bytes holds xs ys : List ℕ) → holds ≡ held ++ bytes → xs ≡ bytes ++ ys → held ++ xs ≡ holds ++ ys
stream_is held bytes holds xs ys grown gone =
    ap (λ (t : List ℕ). held ++ t) gone ∙ sym (append_assoc held bytes ys) ∙ ap (λ (t : List ℕ). t ++ ys) (sym grown)

request_in : (held bytes holds rest : List ℕ) (before now : Option (List ℕ)) (request : Request) → holds ≡ held ++ bytes → Consumes before now bytes
    → Reads holds request rest → TakesRequest (stream held before) (stream rest now) request
request_in held bytes holds rest None now request grown gone reads = tt
request_in held bytes holds rest (Some xs) None request grown gone reads = absurd gone
request_in held bytes holds rest (Some xs) (Some ys) request grown gone reads =
    subst (λ t. Reads t request (rest ++ ys)) (sym (stream_is held bytes holds xs ys grown gone)) (Reads-append holds request rest ys reads)

none_in : (held bytes holds : List ℕ) (before now : Option (List ℕ)) → holds ≡ held ++ bytes → Consumes before now bytes
    → IfSome before (λ all. all ≡ bytes) → holds ≡ [] → TakesNone (stream held before) (stream [] now)
none_in held bytes holds None now grown gone last none = tt
none_in held bytes holds (Some xs) None grown gone last none = absurd gone
none_in held bytes holds (Some xs) (Some ys) grown gone last none =
    let parts = both_none held bytes (sym grown ∙ none) in (
      ap (λ (t : List ℕ). t ++ xs) parts.0 ∙ last ∙ parts.1,
      append_same bytes ys (sym gone ∙ last),
    )

fault_in : (held bytes holds : List ℕ) (before now : Option (List ℕ)) (ended : Bool) (fault : HttpFault) → holds ≡ held ++ bytes → Consumes before now bytes
    → (ended ≡ true → IfSome before (λ all. all ≡ bytes)) → HasFault holds ended fault → FaultOf (stream held before) fault
fault_in held bytes holds None now ended fault grown gone last is = tt
fault_in held bytes holds (Some xs) None ended fault grown gone last is = absurd gone
fault_in held bytes holds (Some xs) (Some ys) true fault grown gone last is =
    subst (λ t. HasFault t true fault) (grown ∙ ap (λ (t : List ℕ). held ++ t) (sym (last refl))) is
fault_in held bytes holds (Some xs) (Some ys) false fault grown gone last is =
    subst (λ t. HasFault t true fault) (sym (stream_is held bytes holds xs ys grown gone)) (HasFault-append holds ys fault is)

ended_true : (bytes : List ℕ) (ended : Bool) (taken : ℕ) → HasFault bytes ended (Ended taken) → ended ≡ true
ended_true bytes ended taken (inl h) = h.0
ended_true bytes ended taken (inr h) = in_body (plan_of (fields_of h.head.fields)) (length (print_request h.head)) h.behind h.is where
  in_body : (plan : BodyPlan) (start : ℕ) (behind : List ℕ) → BodyFault plan start behind ended (Ended taken) → ended ≡ true
  in_body Empty start behind f = absurd f
  in_body (Sized n) start behind f = f.0
  in_body Chunked start behind f = f.is.0
  in_body ToEnd start behind f = absurd f
  in_body Bad start behind f = absurd f
  in_body Huge start behind f = absurd f

met_end : (a b : Bool) (ended : Bool) → b ≡ (a || ended) → ended ≡ true → b ≡ true
met_end true b ended e is = e
met_end false b ended e is = e ∙ is

module _ {A : Type 0} {left seen taken : A → Option (List ℕ)} {met : A → Bool} {dial faults : A → ℕ} where
  -- what a call took is at the front of the stream, and the stream now is what follows it
  pub took_request : (a b : A) (held holds : List ℕ) (request : Option Request)
      → Took left seen taken met dial faults a b held holds request
      → MatchOption request (TakesNone (stream held (left a)) (stream holds (left b))) (TakesRequest (stream held (left a)) (stream holds (left b)))
  took_request a b held holds None t =
      subst (λ h. TakesNone (stream held (left a)) (stream h (left b))) (sym t.is.1)
      (none_in held t.draws.bytes t.bytes (left a) (left b) t.draws.grown t.draws.gone (t.draws.last refl) t.is.0)
  took_request a b held holds (Some r) t =
      request_in held t.draws.bytes t.bytes holds (left a) (left b) r t.draws.grown t.draws.gone t.is

  -- a fault of what a call read is one of the stream
  pub failed_stream : (a b : A) (held : List ℕ) (fault : HttpFault)
      → Fails left seen taken met dial faults a b held HasFault fault → FaultOf (stream held (left a)) fault
  failed_stream a b held fault f =
      fault_in held f.draws.bytes f.holds (left a) (left b) f.ended fault f.draws.grown f.draws.gone f.draws.last f.is

  -- no request and no byte come only of the end
  pub took_none : (a b : A) (held holds : List ℕ) (request : Option Request)
      → Took left seen taken met dial faults a b held holds request → IsNone request → met b ≡ true
  took_none a b held holds None t none = met_end (met a) (met b) true t.draws.end refl
  took_none a b held holds (Some r) t none = let never : ⊥ = cc in absurd never

  pub failed_end : (a b : A) (held : List ℕ) (fault : HttpFault) → Fails left seen taken met dial faults a b held HasFault fault → IsEnd fault → met b ≡ true
  failed_end a b held fault f is =
      met_end (met a) (met b) f.ended f.draws.end (ended_true f.holds f.ended is.0 (subst (HasFault f.holds f.ended) is.1 f.is))
