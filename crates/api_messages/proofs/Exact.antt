-- Reading gives exactly what an object means, member by member.
use Rattle.std.proofs.Common.{◌≡◌, ◌≢◌, ℕ, ◌≤◌, ℤ, pos, ◌≤ℤ◌, List, length, Bool, Option, Some, None, Ok, Err, refl, sym, ap, subst, ◌∙◌, inl, inr, arith}
use Rattle.std.specs.Prelude.{◌⊎◌, nat_le, option_map, option_and_then}
use Rattle.std.specs.Int.{int_max}
use Rattle.std.proofs.lemmas.Bool.{le-leb, leb-true}
use Rattle.std.proofs.lemmas.Bool.Decides.{nat_tests}
use Rattle.std.proofs.lemmas.Int.{ints}
use Rattle.std.proofs.lemmas.Option.{cond_some, same_Some}
use Rattle.serde_json.specs.Data.{Num, Data, null, boolean, number, string, array, object}
use Rattle.serde_json.specs.Find.{get, as_number, as_integer, as_str, as_bool}
use Rattle.api_messages.specs.Members.{Cell, int, text, bool, value, Kind, whole, not_negative, text_within, any_text, cut_text, truth, any_value, Row}
use Rattle.api_messages.specs.Meaning.{IsWhole, StandsFor, IsMissing, Has}
use Rattle.api_messages.specs.Reading.{or_fault, within, whole_in, short_text, cut, read_as, not_null, present, found_or, cell_at}
use Rattle.api_messages.specs.declared.fault.MessageFault.{MessageFault}
use Rattle.api_messages.specs.declared.fault.MessageFault.TheVariants as faults
use Rattle.api_messages.proofs.CutIs.{cut_is, cut_only}

-- ---- options

pub map_some : {A B : Type 0} (f : A → B) (o : Option A) (y : B) → option_map f o ≡ Some y → (x : A) × (o ≡ Some x) × (f x ≡ y)
map_some f None y e = absurd cc
map_some f (Some x) y e = (x, refl, cc)

then_some : {A B : Type 0} (f : A → Option B) (o : Option A) (y : B) → option_and_then f o ≡ Some y → (x : A) × (o ≡ Some x) × (f x ≡ Some y)
then_some f None y e = absurd cc
then_some f (Some x) y e = (x, refl, e)

-- ---- a value of a kind

within_is : (low high z y : ℤ) → within low high z ≡ Some y → (z ≡ y) × (low ≤ℤ z) × (z ≤ℤ high)
within_is low high z y e =
    let p = cond_some _ z y e in
    (p.1, grind (arith, ints, nat_tests), grind (arith, ints, nat_tests))

within_has : (low high z : ℤ) → low ≤ℤ z → z ≤ℤ high → within low high z ≡ Some z
within_has low high z l h = grind (arith, ints, nat_tests)

number_is : (d : Data) (n : Num) → as_number d ≡ Some n → d ≡ number n
number_is (number m) n e = ap number (same_Some m n e)
number_is null n e = absurd cc
number_is (boolean b) n e = absurd cc
number_is (string s) n e = absurd cc
number_is (array ds) n e = absurd cc
number_is (object ms) n e = absurd cc

text_is : (d : Data) (s : List ℕ) → as_str d ≡ Some s → d ≡ string s
text_is (string t) s e = ap string (same_Some t s e)
text_is null s e = absurd cc
text_is (boolean b) s e = absurd cc
text_is (number n) s e = absurd cc
text_is (array ds) s e = absurd cc
text_is (object ms) s e = absurd cc

truth_is : (d : Data) (b : Bool) → as_bool d ≡ Some b → d ≡ boolean b
truth_is (boolean c) b e = ap boolean (same_Some c b e)
truth_is null b e = absurd cc
truth_is (number n) b e = absurd cc
truth_is (string s) b e = absurd cc
truth_is (array ds) b e = absurd cc
truth_is (object ms) b e = absurd cc

whole_is : (low high : ℤ) (d : Data) (z : ℤ) → whole_in low high d ≡ Some z → IsWhole d z × ((low ≤ℤ z) × (z ≤ℤ high))
whole_is low high d z e =
    let p = then_some (within low high) (option_and_then as_integer (as_number d)) z e in
    let q = then_some as_integer (as_number d) p.0 p.1 in
    let w = within_is low high p.0 z p.2 in
    ((q.0, number_is d q.0 q.1, q.2 ∙ ap Some w.0), (subst (λ y. low ≤ℤ y) w.0 w.1, subst (λ y. y ≤ℤ high) w.0 w.2))

whole_has : (low high : ℤ) (d : Data) (z : ℤ) → IsWhole d z → low ≤ℤ z → z ≤ℤ high → whole_in low high d ≡ Some z
whole_has low high d z is l h = rw (is.1, is.2) (within_has low high z l h)

short_is : (most : ℕ) (s t : List ℕ) → short_text most s ≡ Some t → (s ≡ t) × (length s ≤ most)
short_is most s t e = let p = cond_some (nat_le (length s) most) s t e in (p.1, leb-true (length s) most p.0)

kind_is : (k : Kind) (d : Data) (c : Cell) → read_as k d ≡ Some c → StandsFor k d c
unfolding read_as
kind_is (whole low high) d c e =
    let p = map_some int (whole_in low high d) c e in let w = whole_is low high d p.0 p.1 in (p.0, w.0, w.1.0, w.1.1, sym p.2)
kind_is (not_negative low high) d c e =
    let p = map_some (λ z. int (int_max (pos 0) z)) (whole_in low high d) c e in let w = whole_is low high d p.0 p.1 in (p.0, w.0, w.1.0, w.1.1, sym p.2)
kind_is (text_within most) d c e =
    let p = map_some text (option_and_then (short_text most) (as_str d)) c e in
    let q = then_some (short_text most) (as_str d) p.0 p.1 in
    let s = short_is most q.0 p.0 q.2 in
    (q.0, text_is d q.0 q.1, s.1, sym p.2 ∙ ap text (sym s.0))
kind_is any_text d c e = let p = map_some text (as_str d) c e in (p.0, text_is d p.0 p.1, sym p.2)
kind_is (cut_text most) d c e =
    let p = map_some (λ s. text (cut most s)) (as_str d) c e in (p.0, cut most p.0, text_is d p.0 p.1, cut_is most p.0, sym p.2)
kind_is truth d c e = let p = map_some bool (as_bool d) c e in (p.0, truth_is d p.0 p.1, sym p.2)
kind_is any_value d c e = sym (same_Some (value d) c e)

kind_has : (k : Kind) (d : Data) (c : Cell) → StandsFor k d c → read_as k d ≡ Some c
unfolding read_as
kind_has (whole low high) d c h = rw (whole_has low high d h.0 h.1 h.2 h.3, h.4) refl
kind_has (not_negative low high) d c h = rw (whole_has low high d h.0 h.1 h.2 h.3, h.4) refl
kind_has (text_within most) d c h = rw (h.1, h.3, le-leb (length h.0) most h.2) refl
kind_has any_text d c h = rw (h.1, h.2) refl
kind_has (cut_text most) d c h = rw (h.2, h.4, cut_only most h.0 h.1 (cut most h.0) h.3 (cut_is most h.0)) refl
kind_has truth d c h = rw (h.1, h.2) refl
kind_has any_value d c h = rw h refl

-- ---- a row

or_fault_is : {A : Type 0} (e : MessageFault) (o : Option A) (x : A) → or_fault e o ≡ Ok x → o ≡ Some x
or_fault_is e None x h = absurd cc
or_fault_is e (Some y) x h = cc

or_fault_err : {A : Type 0} (e f : MessageFault) (o : Option A) → or_fault e o ≡ Err f → (f ≡ e) × (o ≡ None)
or_fault_err e f None h = (cc, refl)
or_fault_err e f (Some y) h = absurd cc

some_or_none : {A : Type 0} (o : Option A) → (o ≡ None) ⊎ ((x : A) × (o ≡ Some x))
some_or_none None = inl refl
some_or_none (Some x) = inr (x, refl)

null_test : (d : Data) → ((d ≡ null) × (not_null d ≡ None)) ⊎ ((d ≢ null) × (not_null d ≡ Some d))
null_test null = inl (refl, refl)
null_test (boolean b) = inr ((λ e. cc), refl)
null_test (number n) = inr ((λ e. cc), refl)
null_test (string s) = inr ((λ e. cc), refl)
null_test (array ds) = inr ((λ e. cc), refl)
null_test (object ms) = inr ((λ e. cc), refl)

found_is : (row : Row) (d : Data) (c : Cell) (o : Option Data) → get row.name d ≡ o → found_or row.missing row.kind (option_and_then not_null o) ≡ Some c → Has row d c
found_is row d c None e h = inl (inl e, h)
found_is row d c (Some v) e h =
    elim (null_test v) [
      | inl p ↦ inl (inr (e ∙ ap Some p.0), sym (ap (found_or row.missing row.kind) p.1) ∙ h)
      | inr p ↦ inr (v, e, p.0, kind_is row.kind v c (sym (ap (found_or row.missing row.kind) p.1) ∙ h))
    ]

pub absent_is : (name : List ℕ) (d : Data) → IsMissing name d → present name d ≡ None
absent_is name d (inl e) = rw e refl
absent_is name d (inr e) = rw e refl

pub there_is : (name : List ℕ) (d v : Data) → get name d ≡ Some v → v ≢ null → present name d ≡ Some v
there_is name d v e some =
    let there : not_null v ≡ Some v = elim (null_test v) [ inl p ↦ absurd (some p.0) | inr p ↦ p.1 ] in
    rw (e, there) refl

-- a member is missing, or has a value
pub presence : (name : List ℕ) (d : Data) → (IsMissing name d × (present name d ≡ None)) ⊎ ((v : Data) × (get name d ≡ Some v) × (v ≢ null) × (present name d ≡ Some v))
presence name d =
    elim (some_or_none (get name d)) [
      | inl e ↦ inl (inl e, absent_is name d (inl e))
      | inr p ↦
          elim (null_test p.0) [
            | inl q ↦ let gone : get name d ≡ Some null = p.1 ∙ ap Some q.0 in inl (inr gone, absent_is name d (inr gone))
            | inr q ↦ inr (p.0, p.1, q.0, there_is name d p.0 p.1 q.0)
          ]
    ]

found_has : (row : Row) (d : Data) (c : Cell) → Has row d c → found_or row.missing row.kind (present row.name d) ≡ Some c
found_has row d c (inl h) = rw (absent_is row.name d h.0) h.1
found_has row d c (inr h) = rw (there_is row.name d h.0 h.1 h.2) (kind_has row.kind h.0 c h.3)

pub cell_is : (row : Row) (d : Data) (c : Cell) → cell_at row d ≡ Ok c → Has row d c
unfolding cell_at
cell_is row d c e = found_is row d c (get row.name d) refl (or_fault_is _ _ c e)

pub cell_has : (row : Row) (d : Data) (c : Cell) → Has row d c → cell_at row d ≡ Ok c
unfolding cell_at
cell_has row d c h = rw (found_has row d c h) refl

pub cell_fault : (row : Row) (d : Data) (e : MessageFault) → cell_at row d ≡ Err e → (e ≡ faults.Member row.name) × ((c : Cell) → ¬ (Has row d c))
unfolding cell_at
cell_fault row d e h =
    let p = or_fault_err _ e (found_or row.missing row.kind (present row.name d)) h in
    (p.0, λ c has. let q : None ≡ Some c = sym p.1 ∙ found_has row d c has in absurd cc)

pub cell_has_none : (row : Row) (d : Data) → ((c : Cell) → ¬ (Has row d c)) → cell_at row d ≡ Err (faults.Member row.name)
unfolding cell_at
cell_has_none row d h =
    elim (some_or_none (found_or row.missing row.kind (present row.name d))) [
      | inl e ↦ rw e refl
      | inr p ↦ absurd (h p.0 (found_is row d p.0 (get row.name d) refl p.1))
    ]
