-- Reading in several steps.
use Rattle.std.proofs.lemmas.Bool.{ne_eqb}
use Rattle.std.proofs.Common.{◌≡◌, ℕ, ◌≤◌, ◌≢◌, Bool, true, false, ◌||◌, ◌&&◌, ltb, List, [], ◌∷◌, ◌++◌, length, Option, Some, None, IfSome, refl, sym, ap, ◌∙◌, subst, arith, append_assoc, append-nil, Ok, Err}
use Rattle.std.specs.Io.KnownBytes.{Consumes, Appends, Keeps}
use Rattle.std.proofs.KnownBytes.{Consumes-trans, Appends-trans, Consumes-nil, Appends-nil, Consumes-kept, Appends-kept}
use Rattle.outside.specs.Links.{meets_end}
use Rattle.http_reading.specs.Draws.{Draws, Fails}
use Rattle.http_reading.specs.declared.fault.HttpFault.{HttpFault}
use Rattle.http_reading.specs.declared.fault.HttpFault.TheVariants.{LinkFault}

append_none : (xs ys : List ℕ) → xs ≡ xs ++ ys → ys ≡ []
append_none [] ys e = sym e
append_none (x ∷ xs) ys e = append_none xs ys (cc)

front_none : (xs ys : List ℕ) → [] ≡ xs ++ ys → xs ≡ []
front_none [] ys e = refl
front_none (x ∷ xs) ys e = cc

-- a second step after the end gives nothing
last_more : (a b c : Option (List ℕ)) (bs cs : List ℕ) (e f : Bool) → Consumes a b bs → Consumes b c cs
    → (e ≡ true → IfSome a (λ all. all ≡ bs)) → (f ≡ true → IfSome b (λ all. all ≡ cs))
    → (e || f) ≡ true → IfSome a (λ all. all ≡ bs ++ cs)
last_more None b c bs cs e f p q first second end = tt
last_more (Some x) None c bs cs e f p q first second end = absurd p
last_more (Some x) (Some y) None bs cs e f p q first second end = absurd q
last_more (Some x) (Some y) (Some z) bs cs true f p q first second end =
    let none = append_none bs y (sym (first refl) ∙ p) in
    first refl ∙ sym (append-nil bs) ∙ ap (λ (t : List ℕ). bs ++ t) (sym (front_none cs z (sym none ∙ q)))
last_more (Some x) (Some y) (Some z) bs cs false f p q first second end =
    p ∙ ap (λ (t : List ℕ). bs ++ t) (second end)

or_assoc : (a b c : Bool) → ((a || b) || c) ≡ (a || (b || c))
or_assoc true b c = refl
or_assoc false b c = refl

or_false : (a : Bool) → a ≡ (a || false)
or_false true = refl
or_false false = refl

and_false : (a : Bool) → (a && false) ≡ false
and_false true = refl
and_false false = refl

-- a read that gave bytes met no end, and a failed one neither
pub meets_none : (E : Type 0) (into : List ℕ) (n : ℕ) → n ≢ 0 → meets_end {E = E} into (Ok n) ≡ false
meets_none E into n some = rw (ne_eqb n 0 some) (and_false (ltb 0 (length into)))

pub fails_none : {E : Type 0} (into : List ℕ) (e : E) → meets_end into (Err e) ≡ false
fails_none into e = and_false (ltb 0 (length into))

module _ {A : Type 0} {left seen taken : A → Option (List ℕ)} {met : A → Bool} {dial faults : A → ℕ} where
  -- nothing was read yet
  pub draws_none : (a : A) (held : List ℕ) → Draws left seen taken met dial faults a a held held false
  draws_none a held = record {
    bytes = [];
    grown = sym (append-nil held);
    gone = Consumes-nil (left a);
    told = Appends-nil (seen a);
    written = refl;
    place = refl;
    later = omega arith;
    end = or_false (met a);
    last = λ e. absurd (let never : ⊥ = cc in never);
  }

  -- one step and then another
  pub draws_more : {a b c : A} {held mid holds : List ℕ} {e f : Bool}
      → Draws left seen taken met dial faults a b held mid e → Draws left seen taken met dial faults b c mid holds f
      → Draws left seen taken met dial faults a c held holds (e || f)
  draws_more {a} {b} {c} {held} {mid} {holds} {e} {f} first second = record {
    bytes = first.bytes ++ second.bytes;
    grown = second.grown ∙ ap (λ (t : List ℕ). t ++ second.bytes) first.grown ∙ append_assoc held first.bytes second.bytes;
    gone = Consumes-trans (left a) (left b) (left c) first.bytes second.bytes first.gone second.gone;
    told = Appends-trans (seen a) (seen b) (seen c) first.bytes second.bytes first.told second.told;
    written = second.written ∙ first.written;
    place = second.place ∙ first.place;
    later = omega (arith, first.later, second.later);
    end = second.end ∙ ap (λ (t : Bool). t || f) first.end ∙ or_assoc (met a) e f;
    last = last_more (left a) (left b) (left c) first.bytes second.bytes e f first.gone second.gone first.last second.last;
  }

  -- a step behind one that met no end
  pub draws_on : {a b c : A} {held mid holds : List ℕ} {e f : Bool}
      → Draws left seen taken met dial faults a b held mid e → e ≡ false → Draws left seen taken met dial faults b c mid holds f
      → Draws left seen taken met dial faults a c held holds f
  draws_on {a} {c = c} {held} {holds = holds} {f = f} first none second =
      subst (λ (x : Bool). Draws left seen taken met dial faults a c held holds (x || f)) none (draws_more first second)

  -- a read that failed
  pub read_failed : (a b : A) (held : List ℕ) (m : Bool) → Keeps (left a) (left b) → Keeps (seen a) (seen b)
      → taken b ≡ taken a → dial b ≡ dial a → faults a ≤ faults b → met b ≡ (met a || m) → m ≡ false
      → Draws left seen taken met dial faults a b held held false
  read_failed a b held m gone told written place later end none = record {
    bytes = [];
    grown = sym (append-nil held);
    gone = Consumes-kept (left a) (left a) (left b) [] (Consumes-nil (left a)) gone;
    told = Appends-kept (seen a) (seen a) (seen b) [] (Appends-nil (seen a)) told;
    written = written;
    place = place;
    later = later;
    end = end ∙ ap (λ (t : Bool). met a || t) none;
    last = λ e. absurd (let never : ⊥ = cc in never);
  }

  -- a read that gave bytes
  pub read_gave : (a b : A) (held bytes : List ℕ) (m : Bool) → Consumes (left a) (left b) bytes → Appends (seen a) (seen b) bytes
      → taken b ≡ taken a → dial b ≡ dial a → faults a ≤ faults b → met b ≡ (met a || m) → m ≡ false
      → Draws left seen taken met dial faults a b held (held ++ bytes) false
  read_gave a b held bytes m gone told written place later end none = record {
    bytes = bytes;
    grown = refl;
    gone = gone;
    told = told;
    written = written;
    place = place;
    later = later;
    end = end ∙ ap (λ (t : Bool). met a || t) none;
    last = λ e. absurd (let never : ⊥ = cc in never);
  }

  -- a fault of the bytes that were read so far
  pub fails_here : {a b : A} {held holds : List ℕ} {e : Bool} (IsFault : List ℕ → Bool → HttpFault → Type 0) (fault : HttpFault)
      → Draws left seen taken met dial faults a b held holds e → (fault ≡ LinkFault → ⊥) → IsFault holds e fault
      → Fails left seen taken met dial faults a b held IsFault fault
  fails_here {holds = holds} {e = e} IsFault fault draws own is =
      record { holds = holds; ended = e; draws = draws; cause = λ same. absurd (own same); is = is }

  -- a fault of a later step, which says of the bytes then what the first step did not
  pub fails_grown : {a b c : A} {held mid : List ℕ} {e : Bool} {IsFault : List ℕ → Bool → HttpFault → Type 0}
      (IsFault' : List ℕ → Bool → HttpFault → Type 0) {fault : HttpFault}
      → Draws left seen taken met dial faults a b held mid e → Fails left seen taken met dial faults b c mid IsFault fault
      → ((holds : List ℕ) (f : Bool) (bytes : List ℕ) → holds ≡ mid ++ bytes → IsFault holds f fault → IsFault' holds (e || f) fault)
      → Fails left seen taken met dial faults a c held IsFault' fault
  fails_grown {a} {b} {c} {e = e} IsFault' draws fails more = record {
    holds = fails.holds;
    ended = e || fails.ended;
    draws = draws_more draws fails.draws;
    cause = λ same. omega (arith, draws.later, fails.cause same);
    is = more fails.holds fails.ended fails.draws.bytes fails.draws.grown fails.is;
  }

  -- the same, where the first step does not matter
  pub fails_after : {a b c : A} {held mid : List ℕ} {e : Bool} {IsFault : List ℕ → Bool → HttpFault → Type 0}
      (IsFault' : List ℕ → Bool → HttpFault → Type 0) {fault : HttpFault}
      → Draws left seen taken met dial faults a b held mid e → Fails left seen taken met dial faults b c mid IsFault fault
      → ((holds : List ℕ) (f : Bool) → IsFault holds f fault → IsFault' holds (e || f) fault)
      → Fails left seen taken met dial faults a c held IsFault' fault
  fails_after IsFault' draws fails more = fails_grown IsFault' draws fails (λ holds f bytes grown is. more holds f is)

  -- the same fault in other words
  pub fails_as : {a b : A} {held : List ℕ} {IsFault : List ℕ → Bool → HttpFault → Type 0}
      (IsFault' : List ℕ → Bool → HttpFault → Type 0) {fault : HttpFault}
      → Fails left seen taken met dial faults a b held IsFault fault
      → ((holds : List ℕ) (f : Bool) → IsFault holds f fault → IsFault' holds f fault)
      → Fails left seen taken met dial faults a b held IsFault' fault
  fails_as IsFault' fails as_other = record {
    holds = fails.holds;
    ended = fails.ended;
    draws = fails.draws;
    cause = fails.cause;
    is = as_other fails.holds fails.ended fails.is;
  }
