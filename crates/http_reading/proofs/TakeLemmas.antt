-- A request of a head and the body behind it.
use Rattle.std.proofs.Common.{◌≡◌, ◌≢◌, ℕ, Bool, true, false, ◌||◌, List, [], ◌∷◌, ◌++◌, drop, Option, Some, refl, sym, ap, ◌∙◌, subst, append-nil, inr, cond}
use Rattle.std.specs.Prelude.{codes}
use Rattle.std.proofs.lemmas.List.{drop-append-le}
use Rattle.http_reading.specs.Plans.{plan_of, plan_by, fields_of, values_of, is_to_end}
use Rattle.http_reading.specs.Draws.{Draws, Fails}
use Rattle.http_reading.specs.Heads.{HeadAt, HeadRead}
use Rattle.http_reading.specs.Bodies.{ReadsBody, BodyFault}
use Rattle.http_reading.specs.BodyReads.{BodyRead, Behind}
use Rattle.http_reading.specs.Requests.{ReadsHead, HasFault, Took}
use Rattle.http_reading.specs.declared.head.Head.{Head}
use Rattle.http_reading.specs.declared.body.Body.{Body}
use Rattle.http_reading.specs.declared.plan.BodyPlan.{BodyPlan}
use Rattle.http_reading.specs.declared.plan.BodyPlan.TheVariants.{Empty, Sized, Chunked, ToEnd, Bad, TooLarge as Huge}
use Rattle.http_reading.specs.declared.fault.HttpFault.{HttpFault}
use Rattle.http_reading.proofs.DrawLemmas.{draws_more, fails_grown}
use Rattle.http_reading.proofs.GrowLemmas.{ReadsHead-append, BodyFault-append}

-- ---- no request goes to the link's end

choice_not : (b c : Bool) (n : ℕ) → cond b (cond c (Sized n) Huge) Bad ≢ ToEnd
choice_not true true n e = let never : ⊥ = cc in never
choice_not true false n e = let never : ⊥ = cc in never
choice_not false c n e = let never : ⊥ = cc in never

chunked_not : (b : Bool) → cond b Chunked Bad ≢ ToEnd
chunked_not true e = let never : ⊥ = cc in never
chunked_not false e = let never : ⊥ = cc in never

plan_by_not : (lengths codings : List (List ℕ)) → plan_by lengths codings ≢ ToEnd
plan_by_not [] [] e = let never : ⊥ = cc in never
plan_by_not [] (coding ∷ []) e = chunked_not _ e
plan_by_not [] (coding ∷ other ∷ others) e = let never : ⊥ = cc in never
plan_by_not (value ∷ []) [] e = choice_not _ _ _ e
plan_by_not (value ∷ []) (coding ∷ codings) e = let never : ⊥ = cc in never
plan_by_not (value ∷ other ∷ others) codings e = let never : ⊥ = cc in never

pub plan_not : (fields : List (List ℕ × List ℕ)) → plan_of fields ≢ ToEnd
plan_not fields = plan_by_not (values_of (codes "content-length") fields) (values_of (codes "transfer-encoding") fields)

pub not_to_end : (plan : BodyPlan) → plan ≢ ToEnd → is_to_end plan ≡ false
not_to_end Empty other = refl
not_to_end (Sized n) other = refl
not_to_end Chunked other = refl
not_to_end ToEnd other = absurd (other refl)
not_to_end Bad other = refl
not_to_end Huge other = refl

-- so it does not matter whether more can come
settled : (plan : BodyPlan) (bytes : List ℕ) (ended : Bool) (body rest : List ℕ) → plan ≢ ToEnd → ReadsBody plan bytes ended body rest → ReadsBody plan bytes false body rest
settled Empty bytes ended body rest other h = h
settled (Sized n) bytes ended body rest other h = h
settled Chunked bytes ended body rest other h = h
settled ToEnd bytes ended body rest other h = absurd (other refl)
settled Bad bytes ended body rest other h = h
settled Huge bytes ended body rest other h = h

-- a fault that the bytes have where more can come they have at the end too
pub later_body : (plan : BodyPlan) (start : ℕ) (bytes : List ℕ) (e f : Bool) (fault : HttpFault) → BodyFault plan start bytes f fault → BodyFault plan start bytes (e || f) fault
later_body plan start bytes false f fault h = h
later_body plan start bytes true true fault h = h
later_body plan start bytes true false fault h = subst (λ t. BodyFault plan start t true fault) (append-nil bytes) (BodyFault-append plan start bytes [] fault h)

-- ---- the head, where more bytes were read

pub head_grown : (held bytes holds : List ℕ) (head : Head) (at : HeadAt held head) → holds ≡ held ++ bytes → ReadsHead holds at.is (drop head.len holds)
head_grown held bytes holds head at grown =
    subst (λ t. ReadsHead t at.is (drop head.len t)) (sym grown)
    (subst (ReadsHead (held ++ bytes) at.is) (sym (drop-append-le head.len held bytes at.inside))
    (ReadsHead-append held bytes at.is (drop head.len held) at.reads))

module _ {A : Type 0} {left seen taken : A → Option (List ℕ)} {met : A → Bool} {dial faults : A → ℕ} where
  pub head_some : (a b : A) (held holds : List ℕ) (o : Option Head) (head : Head) → o ≡ Some head
      → HeadRead left seen taken met dial faults a b held holds o → HeadRead left seen taken met dial faults a b held holds (Some head)
  head_some a b held holds o head e h = subst (HeadRead left seen taken met dial faults a b held holds) e h

  pub took_both : (a b c : A) (held mid holds rest : List ℕ) (head : Head) (body : Body)
      → HeadRead left seen taken met dial faults a b held mid (Some head)
      → BodyRead left seen taken met dial faults b c mid holds head.plan head.len body
      → rest ≡ drop body.end holds
      → Took left seen taken met dial faults a c held rest
      (Some (record { method = head.method; path = head.path; token = head.token; close = head.close; body = body.bytes }))
  took_both a b c held mid holds rest head body h r e =
      let at = h.is in
      record {
        bytes = holds;
        draws = subst (λ e. Draws left seen taken met dial faults a c held holds e)
            (ap is_to_end at.plan ∙ not_to_end (plan_of (fields_of at.is.fields)) (plan_not (fields_of at.is.fields))) (draws_more h.draws r.draws);
        is = record {
          head = at.is;
          behind = drop head.len holds;
          reads = head_grown mid r.draws.bytes holds head at r.draws.grown;
          body = subst (ReadsBody (plan_of (fields_of at.is.fields)) (drop head.len holds) false body.bytes) (sym e)
              (settled (plan_of (fields_of at.is.fields)) (drop head.len holds) (is_to_end head.plan) body.bytes (drop body.end holds) (plan_not (fields_of at.is.fields))
              (subst (λ p. ReadsBody p (drop head.len holds) (is_to_end head.plan) body.bytes (drop body.end holds)) at.plan r.is));
          method = at.method;
          path = at.path;
          token = at.token;
          close = at.close;
        };
      }

  pub failed_body : (a b c : A) (held mid : List ℕ) (head : Head) (fault : HttpFault)
      → HeadRead left seen taken met dial faults a b held mid (Some head)
      → Fails left seen taken met dial faults b c mid (Behind head.plan head.len) fault
      → Fails left seen taken met dial faults a c held HasFault fault
  failed_body a b c held mid head fault h fails =
      let at = h.is in
      fails_grown HasFault h.draws fails (λ holds f bytes grown is. inr (record {
        head = at.is;
        behind = drop head.len holds;
        reads = head_grown mid bytes holds head at grown;
        is =
            (subst (λ n. BodyFault (plan_of (fields_of at.is.fields)) n (drop head.len holds) f fault) at.size
            (subst (λ p. BodyFault p head.len (drop head.len holds) f fault) at.plan is));
      }))
