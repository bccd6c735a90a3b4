-- Reading gives exactly what a body means.
use Rattle.std.proofs.Common.{◌≡◌, ℕ, ◌<◌, ◌≤◌, List, [], length, Bool, true, false, Option, Some, None, Result, Ok, Err, refl, sym, subst, inl, inr}
use Rattle.std.specs.Prelude.{◌⊎◌}
use Rattle.std.specs.Str.{IsUtf8, is_utf8}
use Rattle.std.proofs.lemmas.Bool.{cases_lt, lt-ltb}
use Rattle.std.proofs.lemmas.Str.{IsUtf8-from_is_utf8, is_utf8-from_IsUtf8}
use Rattle.serde_json.specs.Data.{Data, null, boolean, number, string, array, object}
use Rattle.serde_json.specs.Read.{read}
use Rattle.api_messages.specs.Members.{Cell, Row}
use Rattle.job_values.specs.declared.limits.TheConstants.{LONGEST_BODY}
use Rattle.api_messages.specs.Meaning.{IsBody, IsNoJson, IsObject, IsBodyOf, HasBodyFault, Means, IsFirstFaulty, IsMessage, HasFault}
use Rattle.api_messages.specs.Reading.{◌>>=◌, value_at, is_object, as_message, object_at, cells_at, message_at}
use Rattle.api_messages.specs.declared.fault.MessageFault.{MessageFault}
use Rattle.api_messages.specs.declared.fault.MessageFault.TheVariants as faults
use Rattle.api_messages.proofs.Bodies.{value_at-json, value_at-none}
use Rattle.api_messages.proofs.ExactRows.{bind_ok, bind_err, cells_is, cells_has, cells_fault, cells_has_fault}

-- ---- the JSON value of a body

pub value_at-long : (bytes : List ℕ) → LONGEST_BODY < length bytes → value_at bytes ≡ Err faults.TooLong
unfolding value_at
value_at-long bytes long = rw (lt-ltb LONGEST_BODY (length bytes) long) refl

utf8_test : (bytes : List ℕ) (b : Bool) → is_utf8 bytes ≡ b → (IsUtf8 bytes × (is_utf8 bytes ≡ true)) ⊎ (¬ (IsUtf8 bytes))
utf8_test bytes true e = inl (IsUtf8-from_is_utf8 bytes e, e)
utf8_test bytes false e = inr (λ u. let t = is_utf8-from_IsUtf8 bytes u in absurd cc)

read_test : (o : Option Data) → (o ≡ None) ⊎ ((d : Data) × (o ≡ Some d))
read_test None = inl refl
read_test (Some d) = inr (d, refl)

-- a body is too long, or no JSON, or has one JSON value
pub body_cases : (bytes : List ℕ) → (LONGEST_BODY < length bytes) ⊎ (((length bytes ≤ LONGEST_BODY) × IsNoJson bytes) ⊎ ((d : Data) × IsBody bytes d))
body_cases bytes =
    elim (cases_lt LONGEST_BODY (length bytes)) [
      | inl long ↦ inl long
      | inr short ↦
          elim (utf8_test bytes (is_utf8 bytes) refl) [
            | inr bad ↦ inr (inl (short, λ u. absurd (bad u)))
            | inl good ↦
                elim (read_test (read bytes)) [
                  | inl gone ↦ inr (inl (short, λ _. gone))
                  | inr p ↦ inr (inr (p.0, record { fits = short; utf8 = good.0; json = p.1 }))
                ]
          ]
    ]

pub body_value : (bytes : List ℕ) (d : Data) → IsBody bytes d → value_at bytes ≡ Ok d
body_value bytes d b = value_at-json bytes d b.fits b.utf8 b.json

pub value_is : (bytes : List ℕ) (d : Data) → value_at bytes ≡ Ok d → IsBody bytes d
value_is bytes d e =
    elim (body_cases bytes) [
      | inl long ↦ let h = value_at-long bytes long in absurd cc
      | inr (inl p) ↦ let h = value_at-none bytes p.0 p.1 in absurd cc
      | inr (inr p) ↦ let h = body_value bytes p.0 p.1 in let same : p.0 ≡ d = cc in subst (IsBody bytes) same p.1
    ]

pub value_fault : (bytes : List ℕ) (e : MessageFault) → value_at bytes ≡ Err e → ((e ≡ faults.TooLong) × (LONGEST_BODY < length bytes)) ⊎ ((e ≡ faults.NotJson) × ((length bytes ≤ LONGEST_BODY) × IsNoJson bytes))
value_fault bytes e h =
    elim (body_cases bytes) [
      | inl long ↦ let k = value_at-long bytes long in inl (cc, long)
      | inr (inl p) ↦ let k = value_at-none bytes p.0 p.1 in inr (cc, p)
      | inr (inr p) ↦ let k = body_value bytes p.0 p.1 in absurd cc
    ]

-- ---- its shape

pub object_test : (d : Data) → (IsObject d × (is_object d ≡ true)) ⊎ ((¬ (IsObject d)) × (is_object d ≡ false))
object_test (object ms) = inl ((ms, refl), refl)
object_test null = inr ((λ p. let e = p.1 in absurd cc), refl)
object_test (boolean b) = inr ((λ p. let e = p.1 in absurd cc), refl)
object_test (number n) = inr ((λ p. let e = p.1 in absurd cc), refl)
object_test (string s) = inr ((λ p. let e = p.1 in absurd cc), refl)
object_test (array ds) = inr ((λ p. let e = p.1 in absurd cc), refl)

object_passes : (d : Data) → IsObject d → as_message d ≡ Ok d
object_passes d is = rw is.1 refl

as_message_is : (d e : Data) → as_message d ≡ Ok e → (d ≡ e) × IsObject d
as_message_is d e h =
    elim (object_test d) [
      | inl p ↦ let k = object_passes d p.0 in (cc, p.0)
      | inr p ↦ let k : as_message d ≡ Err faults.WrongShape = rw p.1 refl in absurd cc
    ]

as_message_fault : (d : Data) (e : MessageFault) → as_message d ≡ Err e → (e ≡ faults.WrongShape) × ¬ (IsObject d)
as_message_fault d e h =
    elim (object_test d) [
      | inl p ↦ let k = object_passes d p.0 in absurd cc
      | inr p ↦ let k : as_message d ≡ Err faults.WrongShape = rw p.1 refl in (cc, p.0)
    ]

-- ---- an object

pub body_is : {A : Type 0} (reads : Data → Result A MessageFault) (means : Data → A → Type 0) (bytes : List ℕ) (x : A) → ((d : Data) → reads d ≡ Ok x → means d x) → (object_at bytes >>= reads) ≡ Ok x → IsBodyOf means bytes x
unfolding object_at
body_is reads means bytes x meant e =
    let p = bind_ok (value_at bytes >>= as_message) reads x e in
    let q = bind_ok (value_at bytes) as_message p.0 p.1 in
    let s = as_message_is q.0 p.0 q.2 in
    (p.0, subst (IsBody bytes) s.0 (value_is bytes q.0 q.1), subst IsObject s.0 s.1, meant p.0 p.2)

pub object_has : (bytes : List ℕ) (d : Data) → IsBody bytes d → IsObject d → object_at bytes ≡ Ok d
unfolding object_at
object_has bytes d is shape = rw (body_value bytes d is) (object_passes d shape)

of_value : (faulty : Data → List ℕ → Type 0) (bytes : List ℕ) (e : MessageFault) → ((e ≡ faults.TooLong) × (LONGEST_BODY < length bytes)) ⊎ ((e ≡ faults.NotJson) × ((length bytes ≤ LONGEST_BODY) × IsNoJson bytes)) → HasBodyFault faulty bytes e
of_value faulty bytes e (inl p) = rw p.0 p.1
of_value faulty bytes e (inr p) = rw p.0 p.1

pub body_fault : {A : Type 0} (reads : Data → Result A MessageFault) (faulty : Data → List ℕ → Type 0) (bytes : List ℕ) (e : MessageFault)
    → ((d : Data) → reads d ≡ Err e → (name : List ℕ) × (e ≡ faults.Member name) × faulty d name) → (object_at bytes >>= reads) ≡ Err e → HasBodyFault faulty bytes e
unfolding object_at
body_fault reads faulty bytes e told h =
    elim (bind_err (value_at bytes >>= as_message) reads e h) [
      | inl early ↦
          elim (bind_err (value_at bytes) as_message e early) [
            | inl first ↦ of_value faulty bytes e (value_fault bytes e first)
            | inr p ↦ let s = as_message_fault p.0 e p.2 in rw s.0 (p.0, value_is bytes p.0 p.1, s.1)
          ]
      | inr p ↦
          let q = bind_ok (value_at bytes) as_message p.0 p.1 in
          let s = as_message_is q.0 p.0 q.2 in
          let f = told p.0 p.2 in
          rw f.1 (p.0, subst (IsBody bytes) s.0 (value_is bytes q.0 q.1), subst IsObject s.0 s.1, f.2)
    ]

not_object : (d : Data) → ¬ (IsObject d) → as_message d ≡ Err faults.WrongShape
not_object d h = elim (object_test d) [ inl p ↦ absurd (h p.0) | inr p ↦ rw p.1 refl ]

pub body_has_fault : {A : Type 0} (reads : Data → Result A MessageFault) (faulty : Data → List ℕ → Type 0) (bytes : List ℕ) (e : MessageFault)
    → ((d : Data) (name : List ℕ) → faulty d name → reads d ≡ Err (faults.Member name)) → HasBodyFault faulty bytes e → (object_at bytes >>= reads) ≡ Err e
unfolding object_at
body_has_fault reads faulty bytes faults.TooLong told h = rw (value_at-long bytes h) refl
body_has_fault reads faulty bytes faults.NotJson told h = rw (value_at-none bytes h.0 h.1) refl
body_has_fault reads faulty bytes faults.WrongShape told h = rw (body_value bytes h.0 h.1, not_object h.0 h.2) refl
body_has_fault reads faulty bytes (faults.Member which) told h = rw (body_value bytes h.0 h.1, object_passes h.0 h.2) (told h.0 which h.3)
body_has_fault reads faulty bytes faults.NoMemory told h = absurd h

-- ---- a message

own_is : (rows : List Row) (d : Data) (cells : List Cell) → cells_at rows d ≡ Ok cells → Means rows d cells
own_is rows d cells e = let r = cells_is [] rows d cells e in subst (Means rows d) (sym r.1) r.2

pub message_is : (rows : List Row) (bytes : List ℕ) (cells : List Cell) → message_at rows bytes ≡ Ok cells → IsMessage rows bytes cells
unfolding message_at
message_is rows bytes cells e = body_is (cells_at rows) (Means rows) bytes cells (λ d. own_is rows d cells) e

pub message_has : (rows : List Row) (bytes : List ℕ) (cells : List Cell) → IsMessage rows bytes cells → message_at rows bytes ≡ Ok cells
unfolding message_at
message_has rows bytes cells m = rw (object_has bytes m.0 m.1 m.2) (cells_has [] rows m.0 cells m.3)

pub message_fault : (rows : List Row) (bytes : List ℕ) (e : MessageFault) → message_at rows bytes ≡ Err e → HasFault rows bytes e
unfolding message_at
message_fault rows bytes e h = body_fault (cells_at rows) (IsFirstFaulty rows) bytes e (λ d. cells_fault [] rows d e) h

pub message_has_fault : (rows : List Row) (bytes : List ℕ) (e : MessageFault) → HasFault rows bytes e → message_at rows bytes ≡ Err e
unfolding message_at
message_has_fault rows bytes e h = body_has_fault (cells_at rows) (IsFirstFaulty rows) bytes e (cells_has_fault [] rows) h
