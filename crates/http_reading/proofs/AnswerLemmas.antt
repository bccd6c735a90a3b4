-- A response of a head and the body behind it.
use Rattle.std.proofs.Common.{◌≡◌, ℕ, Bool, List, [], ◌++◌, drop, Option, sym, ap, subst, inl, inr}
use Rattle.std.specs.Io.KnownBytes.{Consumes, Appends}
use Rattle.std.proofs.lemmas.List.{drop-append-le}
use Rattle.httparse.proofs.GrammarLemmas.{ReadsResponse-append}
use Rattle.http_reading.specs.Plans.{plan_of, to_end, is_to_end, fields_of}
use Rattle.http_reading.specs.Draws.{Draws, Fails}
use Rattle.http_reading.specs.Heads.{TopAt, TopRead}
use Rattle.http_reading.specs.Bodies.{ReadsBody, BodyFault}
use Rattle.http_reading.specs.BodyReads.{BodyRead, Behind}
use Rattle.http_reading.specs.Responses.{ReadsTop, TopFault, HasAnswerFault, Heard, HearsAnswer, HearsFault}
use Rattle.http_reading.specs.declared.top.Top.{Top}
use Rattle.http_reading.specs.declared.body.Body.{Body}
use Rattle.http_reading.specs.declared.fault.HttpFault.{HttpFault}
use Rattle.http_reading.proofs.DrawLemmas.{draws_more, fails_grown}

top_grown : (held bytes holds : List ℕ) (top : Top) (at : TopAt held top) → holds ≡ held ++ bytes → ReadsTop holds at.is (drop top.len holds)
top_grown held bytes holds top at grown =
    subst (λ t. ReadsTop t at.is (drop top.len t)) (sym grown)
    (subst (ReadsTop (held ++ bytes) at.is) (sym (drop-append-le top.len held bytes at.inside))
    (record {
      reads = ReadsResponse-append held at.is (drop top.len held) bytes at.reads.reads;
      short = at.reads.short;
      few = at.reads.few;
    }))

module _ {A : Type 0} {left seen taken : A → Option (List ℕ)} {met : A → Bool} {dial faults : A → ℕ} where
  heard : (a b : A) (holds : List ℕ) (ended : Bool) → Draws left seen taken met dial faults a b [] holds ended
      → Heard (left a) (left b) (seen a) (seen b) (met a) (met b) holds ended
  heard a b holds ended draws = record {
    gone = subst (Consumes (left a) (left b)) (sym draws.grown) draws.gone;
    told = subst (Appends (seen a) (seen b)) (sym draws.grown) draws.told;
    end = draws.end;
  }

  pub hears_answer : (a b c : A) (mid holds : List ℕ) (top : Top) (body : Body)
      → TopRead left seen taken met dial faults a b [] mid top
      → BodyRead left seen taken met dial faults b c mid holds top.plan top.len body
      → HearsAnswer (left a) (left c) (seen a) (seen c) (met a) (met c) (record { status = top.status; body = body.bytes })
  hears_answer a b c mid holds top body h r =
      let at = h.is in
      let plan = to_end (plan_of (fields_of at.is.fields)) in
      let ended = is_to_end top.plan in
      record {
        bytes = holds;
        ended = ended;
        heard = heard a c holds ended (draws_more h.draws r.draws);
        rest = drop body.end holds;
        is = record {
          head = at.is;
          behind = drop top.len holds;
          reads = top_grown mid r.draws.bytes holds top at r.draws.grown;
          body = subst (λ p. ReadsBody p (drop top.len holds) ended body.bytes (drop body.end holds)) at.plan r.is;
          status = at.status;
        };
        early = ap is_to_end at.plan;
      }

  -- a fault of what was read
  pub hears_fault : (a b : A) (fault : HttpFault) → Fails left seen taken met dial faults a b [] HasAnswerFault fault
      → HearsFault (left a) (left b) (seen a) (seen b) (met a) (met b) fault
  hears_fault a b fault f = record { bytes = f.holds; ended = f.ended; heard = heard a b f.holds f.ended f.draws; is = f.is }

  pub failed_top : (a b : A) (held : List ℕ) (fault : HttpFault) → Fails left seen taken met dial faults a b held TopFault fault
      → Fails left seen taken met dial faults a b held HasAnswerFault fault
  failed_top a b held fault f = record { holds = f.holds; ended = f.ended; draws = f.draws; cause = f.cause; is = inl f.is }

  pub failed_behind : (a b c : A) (held mid : List ℕ) (top : Top) (fault : HttpFault)
      → TopRead left seen taken met dial faults a b held mid top
      → Fails left seen taken met dial faults b c mid (Behind top.plan top.len) fault
      → Fails left seen taken met dial faults a c held HasAnswerFault fault
  failed_behind a b c held mid top fault h fails =
      let at = h.is in
      let plan = to_end (plan_of (fields_of at.is.fields)) in
      fails_grown HasAnswerFault h.draws fails (λ holds f bytes grown is. inr (record {
        head = at.is;
        behind = drop top.len holds;
        reads = top_grown mid bytes holds top at grown;
        is =
            (subst (λ n. BodyFault plan n (drop top.len holds) f fault) at.size
            (subst (λ p. BodyFault p top.len (drop top.len holds) f fault) at.plan is));
      }))
