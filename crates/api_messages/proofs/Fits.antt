-- What is read is within the limits of its rows.
use Rattle.std.proofs.Common.{◌≡◌, ℤ, pos, ◌≤ℤ◌, List, [], ◌∷◌, Option, Some, None, Result, Ok, Err, refl, sym, subst, inl, inr, arith}
use Rattle.std.specs.Prelude.{IfOk}
use Rattle.std.specs.Int.{int_max}
use Rattle.std.proofs.lemmas.Int.{ints}
use Rattle.std.proofs.lemmas.Bool.Decides.{nat_tests}
use Rattle.std.proofs.lemmas.Option.{same_Some}
use Rattle.serde_json.specs.Data.{Data}
use Rattle.api_messages.specs.Members.{Cell, int, text, bool, Kind, whole, not_negative, text_within, any_text, cut_text, truth, any_value, Row}
use Rattle.api_messages.specs.Tables.{run_rows, log_rows, registry_rows}
use Rattle.api_messages.specs.Meaning.{StandsFor, Has, Means}
use Rattle.api_messages.specs.Reading.{Gives, cells_at}
use Rattle.api_messages.specs.Writing.{FitsKind, FitsRow, Fit}
use Rattle.api_messages.specs.declared.fault.MessageFault.{MessageFault}
use Rattle.api_messages.proofs.ExactRows.{cells_is}

-- a kind that gives only what it would take, and a default that the row would take
abbrev pub SoundKind : Kind → Type 0
SoundKind (not_negative low high) = pos 0 ≤ℤ high
SoundKind any_value = ⊥
SoundKind (whole low high) = Unit {0}
SoundKind (text_within most) = Unit {0}
SoundKind any_text = Unit {0}
SoundKind (cut_text most) = Unit {0}
SoundKind truth = Unit {0}

abbrev pub DefaultFits : Row → Option Cell → Type 0
DefaultFits row None = Unit {0}
DefaultFits row (Some c) = FitsRow row c

abbrev pub Sound : List Row → Type 0
Sound [] = Unit {0}
Sound (row ∷ rows) = SoundKind row.kind × DefaultFits row row.missing × Sound rows

max_fits : (low high z : ℤ) → pos 0 ≤ℤ high → low ≤ℤ z → z ≤ℤ high → (low ≤ℤ int_max (pos 0) z) × (pos 0 ≤ℤ int_max (pos 0) z) × (int_max (pos 0) z ≤ℤ high)
max_fits low high z s l h = (grind (arith, ints, nat_tests), grind (arith, ints, nat_tests), grind (arith, ints, nat_tests))

stands_fits : (row : Row) (k : Kind) (d : Data) (c : Cell) → row.kind ≡ k → SoundKind k → StandsFor k d c → FitsRow row c
stands_fits row (whole low high) d c e s h = rw h.4 (subst (λ k. FitsKind k (int h.0)) (sym e) (h.2, h.3))
stands_fits row (not_negative low high) d c e s h = rw h.4 (subst (λ k. FitsKind k (int (int_max (pos 0) h.0))) (sym e) (max_fits low high h.0 s h.2 h.3))
stands_fits row (text_within most) d c e s h = rw h.3 (subst (λ k. FitsKind k (text h.0)) (sym e) h.2)
stands_fits row any_text d c e s h = rw h.2 (subst (λ k. FitsKind k (text h.0)) (sym e) tt)
stands_fits row (cut_text most) d c e s h = rw h.4 (subst (λ k. FitsKind k (text h.1)) (sym e) h.3.fits)
stands_fits row truth d c e s h = rw h.2 (subst (λ k. FitsKind k (bool h.0)) (sym e) tt)
stands_fits row any_value d c e s h = absurd s

default_fits : (row : Row) (c : Cell) (o : Option Cell) → DefaultFits row o → o ≡ Some c → FitsRow row c
default_fits row c None h e = absurd cc
default_fits row c (Some x) h e = subst (FitsRow row) (same_Some x c e) h

has_fits : (row : Row) (d : Data) (c : Cell) → SoundKind row.kind → DefaultFits row row.missing → Has row d c → FitsRow row c
has_fits row d c s m (inl h) = default_fits row c row.missing m h.1
has_fits row d c s m (inr h) = stands_fits row row.kind h.0 c refl s h.3

means_fit : (rows : List Row) (d : Data) (cells : List Cell) → Sound rows → Means rows d cells → Fit rows cells
means_fit [] d [] s h = tt
means_fit [] d (c ∷ cs) s h = absurd h
means_fit (row ∷ rows) d [] s h = absurd h
means_fit (row ∷ rows) d (c ∷ cs) s h = (has_fits row d c s.0 s.1 h.0, means_fit rows d cs s.2 h.1)

pub fits_read : {X : Type 0} (v : X → List Cell) (r : Result X MessageFault) (rows : List Row) (d : Data) → Sound rows → Gives v r (cells_at rows d) → IfOk r (λ m. Fit rows (v m))
fits_read v (Ok m) rows d s h = let p = cells_is [] rows d (v m) h in means_fit rows d (v m) s (subst (Means rows d) (sym p.1) p.2)
fits_read v (Err e) rows d s h = tt

pub run_sound : Sound run_rows
run_sound = search (arith, ints)

pub log_sound : Sound log_rows
log_sound = search (arith, ints)

pub registry_sound : Sound registry_rows
registry_sound = search (arith, ints)
