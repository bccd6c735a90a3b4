-- Names are what their grammar says.
use Rattle.std.proofs.Common.{◌≡◌, ℕ, zero, suc, ◌≤◌, Bool, true, List, [], ◌∷◌, ◌++◌, length, refl, sym, ap, subst, ◌∙◌, inl, inr, arith}
use Rattle.std.specs.List.{AllByRecursion}
use Rattle.std.proofs.lemmas.Bool.{eqb-true}
use Rattle.zone_texts.specs.Grammar.{Says}
use Rattle.zone_texts.specs.ZoneText.{is_letter, is_quoted, byte, up_to, three_to_eight, name}
use Rattle.zone_texts.specs.Laws.{IsRun, IsName, NamesSay}
use Rattle.zone_texts.proofs.GrammarLaws.{cons≢nil}
use Rattle.zone_texts.proofs.GrammarParts.{parted, joined}

abbrev Has : (ℕ → Bool) → List ℕ → Type 0
Has class text = AllByRecursion (λ b. class b ≡ true) text

few : (n : ℕ) (class : ℕ → Bool) (text : List ℕ) → Says (up_to n class) tt text → (length text ≤ n) × Has class text
few zero class [] h = (omega arith, tt)
few zero class (b ∷ text) h = absurd (cons≢nil b text h.1)
few (suc n) class [] h = (omega arith, tt)
few (suc n) class (b ∷ text) (inl h) = let r = few n class text h.1 in (omega (arith, r.0), (h.0, r.1))
few (suc n) class (b ∷ text) (inr h) = absurd (cons≢nil b text h.1)

said_few : (n : ℕ) (class : ℕ → Bool) (text : List ℕ) → length text ≤ n → Has class text → Says (up_to n class) tt text
said_few zero class [] le has = (refl, refl)
said_few zero class (b ∷ text) le has = absurd (omega (arith, le))
said_few (suc n) class [] le has = (refl, refl)
said_few (suc n) class (b ∷ text) le has = inl (has.0, said_few n class text (omega (arith, le)) has.1)

run_said : (class : ℕ → Bool) (text : List ℕ) → Says (three_to_eight class) tt text → IsRun class text
run_said class [] h = absurd h
run_said class (a ∷ []) h = absurd h.1
run_said class (a ∷ b ∷ []) h = absurd h.1.1
run_said class (a ∷ b ∷ c ∷ text) h =
    let r = few 5 class text h.1.1.1 in
    (omega arith, omega (arith, r.0), (h.0, (h.1.0, (h.1.1.0, r.1))))

said_run : (class : ℕ → Bool) (text : List ℕ) → IsRun class text → Says (three_to_eight class) tt text
said_run class [] h = absurd (omega (arith, h.0))
said_run class (a ∷ []) h = absurd (omega (arith, h.0))
said_run class (a ∷ b ∷ []) h = absurd (omega (arith, h.0))
said_run class (a ∷ b ∷ c ∷ text) h = (h.2.0, (h.2.1.0, (h.2.1.1.0, said_few 5 class text (omega (arith, h.1)) h.2.1.1.1)))

byte_said : (c : ℕ) (text : List ℕ) → Says (byte c) tt text → text ≡ c ∷ []
byte_said c [] h = absurd h
byte_said c (b ∷ text) h = ap (λ (k : ℕ). k ∷ text) (eqb-true b c h.0) ∙ ap (λ (t : List ℕ). c ∷ t) h.1.1

name_said : (text : List ℕ) → Says name tt text → IsName text
name_said [] h = absurd h
name_said (b ∷ text) (inl h) =
    let p = parted (three_to_eight is_quoted) (λ n. byte 62) tt text h.1 in
    inr (p.1, run_said is_quoted p.1 p.3, ap (λ (k : ℕ). k ∷ text) (eqb-true b 60 h.0) ∙ ap (λ (t : List ℕ). 60 ∷ t) (p.5 ∙ ap (λ (t : List ℕ). p.1 ++ t) (byte_said 62 p.2 p.4)))
name_said (b ∷ text) (inr h) = inl (run_said is_letter (b ∷ text) h)

said_letters : (text : List ℕ) → Says (three_to_eight is_letter) tt text → Says name tt text
said_letters [] h = absurd h
said_letters (b ∷ text) h = inr h

said_name : (text : List ℕ) → IsName text → Says name tt text
said_name text (inl h) = said_letters text (said_run is_letter text h)
said_name text (inr h) =
    subst (Says name tt) (sym h.2) (inl (refl, joined (three_to_eight is_quoted) (λ n. byte 62) tt tt h.0 (62 ∷ []) (said_run is_quoted h.0 h.1) (refl, (refl, refl))))

pub names : NamesSay
names text = (name_said text, said_name text)
