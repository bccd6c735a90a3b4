-- Words that may begin with `-` are read and said.
use Rattle.std.proofs.Common.{◌≡◌, ℕ, zero, suc, ◌+◌, ◌/◌, ◌%◌, ◌^◌, ◌≤◌, ◌<◌, Bool, true, false, cond, eqb, List, [], ◌∷◌, ◌++◌, length, Result, Ok, Err, refl, sym, ap, subst, ◌∙◌, inl, inr, arith, length-append}
use Rattle.std.specs.Prelude.{decimal}
use Rattle.std.proofs.lemmas.Bool.{cases_lt, eqb-true, eqb-false, ne_eqb}
use Rattle.std.proofs.lemmas.Fmt.{decimal_digit, decimal_step}
use Rattle.line_grammar.specs.declared.ends.End.{End}
use Rattle.line_grammar.specs.declared.numbers.NumberForm.{NumberForm}
use Rattle.line_grammar.specs.declared.texts.TextForm.{TextForm}
use Rattle.line_grammar.specs.Ends.{end_byte}
use Rattle.line_grammar.specs.Languages.{Stops, Reads}
use Rattle.line_grammar.specs.Choices.{IsWord, words_at}
use Rattle.line_grammar.specs.Numbers.{end_of, IsNumber, number_at}
use Rattle.line_grammar.specs.Texts.{spelled, IsText, is_text_form, text_at}
use Rattle.line_grammar.specs.Dashes.{Either, seen, either_at, no_text, some_text, end_words, IsOptional, optional_at, plus_form, minus_form, plus, minus, IsCode, code_at}
use Rattle.line_grammar.proofs.Fronts.{cons_parts}
use Rattle.line_grammar.proofs.Algebra.{good, bad, ok_is, err_is, ok≢err, bind_ok}
use Rattle.line_grammar.proofs.Decimals.{number_reads}
use Rattle.line_grammar.proofs.Quoted.{text_reads}
use Rattle.line_grammar.proofs.Keywords.{words_reads}

seen_ok : {V U : Type 0} (f : V → U) (read : Result (V × List ℕ) ℕ) (u : U) (rest : List ℕ) → seen f read ≡ Ok (u, rest) → (v : V) × (read ≡ Ok (v, rest)) × (u ≡ f v)
seen_ok {V} {U} f read u rest e =
    let b = bind_ok read (λ (x : V × List ℕ). good (f x.0, x.1)) (u, rest) e in
    let p = ok_is (f b.0.0, b.0.1) (u, rest) b.2 in
    (b.0.0, b.1 ∙ ap (λ (q : U × List ℕ). good (b.0.0, q.1)) p, sym (ap (λ (q : U × List ℕ). q.0) p))

seen_err : {V U : Type 0} (f : V → U) (read : Result (V × List ℕ) ℕ) (left : ℕ) → seen f read ≡ Err left → read ≡ Err left
seen_err {V} {U} f (Ok x) left e = absurd (ok≢err (f x.0, x.1) left (Ok (f x.0, x.1)) refl e)
seen_err {V} {U} f (Err d) left e = ap (λ (n : ℕ). bad {A = V × List ℕ} n) (err_is (U × List ℕ) d left e)

module _ {V W U : Type 0} (f : V → U) (L : V → List ℕ → Type 0) (first : List ℕ → Result (V × List ℕ) ℕ) (g : W → U) (M : W → List ℕ → Type 0) (second : List ℕ → Result (W × List ℕ) ℕ)
    (l : Reads L first) (m : Reads M second) (avoids : (v : V) (t : List ℕ) → L v (45 ∷ t) → ⊥) (full : (v : V) → L v [] → ⊥) where
  abbrev Found : U → List ℕ → List ℕ → Type 0
  Found u bytes rest = (text : List ℕ) × Either f L g M u text × (bytes ≡ text ++ rest)

  found_first : (bytes : List ℕ) (u : U) (rest : List ℕ) → seen f (first bytes) ≡ Ok (u, rest) → Found u bytes rest
  found_first bytes u rest e =
      let s = seen_ok f (first bytes) u rest e in
      let t = l.found bytes s.0 rest s.1 in
      (t.0, inl (s.0, t.1, s.2), t.2)

  found_second : (b : ℕ) (bytes : List ℕ) (u : U) (rest : List ℕ) → b ≡ 45 → seen g (second bytes) ≡ Ok (u, rest) → Found u (b ∷ bytes) rest
  found_second b bytes u rest is e =
      let s = seen_ok g (second bytes) u rest e in
      let t = m.found bytes s.0 rest s.1 in
      (45 ∷ t.0, inr (s.0, t.0, t.1, refl, s.2), ap (λ (k : ℕ). k ∷ bytes) is ∙ ap (λ (x : List ℕ). 45 ∷ x) t.2)

  found_step : (t : Bool) (b : ℕ) (bytes : List ℕ) (u : U) (rest : List ℕ) → eqb b 45 ≡ t → cond t (seen g (second bytes)) (seen f (first (b ∷ bytes))) ≡ Ok (u, rest) → Found u (b ∷ bytes) rest
  found_step true b bytes u rest t e = found_second b bytes u rest (eqb-true b 45 t) e
  found_step false b bytes u rest t e = found_first (b ∷ bytes) u rest e

  found : (bytes : List ℕ) (u : U) (rest : List ℕ) → either_at f first g second bytes ≡ Ok (u, rest) → Found u bytes rest
  found [] u rest e = found_first [] u rest e
  found (b ∷ bytes) u rest e = found_step (eqb b 45) b bytes u rest refl e

  at_first : (bytes text : List ℕ) (v : V) → L v text → (rest : List ℕ) → bytes ≡ text ++ rest → either_at f first g second bytes ≡ Ok (f v, rest)
  at_first [] text v h rest is = ap (seen f) (ap first is ∙ l.again v text rest h)
  at_first (b ∷ bytes) [] v h rest is = absurd (full v h)
  at_first (b ∷ bytes) (a ∷ text) v h rest is =
      let same = (cons_parts b a bytes (text ++ rest) is).0 in
      ap (λ (t : Bool). cond t (seen g (second bytes)) (seen f (first (b ∷ bytes)))) (ne_eqb b 45 (λ e. avoids v text (subst (λ (k : ℕ). L v (k ∷ text)) (sym same ∙ e) h))) ∙ ap (seen f) (ap first is ∙ l.again v (a ∷ text) rest h)

  at_second : (w : W) (behind rest : List ℕ) → M w behind → either_at f first g second ((45 ∷ behind) ++ rest) ≡ Ok (g w, rest)
  at_second w behind rest h = ap (seen g) (m.again w behind rest h)

  again : (u : U) (text rest : List ℕ) → Either f L g M u text → either_at f first g second (text ++ rest) ≡ Ok (u, rest)
  again u text rest (inl h) = at_first (text ++ rest) text h.0 h.1 rest refl ∙ ap (λ (x : U). good (x, rest)) (sym h.2)
  again u text rest (inr h) = ap (λ (t : List ℕ). either_at f first g second (t ++ rest)) h.3 ∙ at_second h.0 h.1 rest h.2 ∙ ap (λ (x : U). good (x, rest)) (sym h.4)

  -- a front that is not empty and begins with another byte
  no_second : (b c : ℕ) (bytes front back more behind begun : List ℕ) → (b ≡ 45 → ⊥) → b ∷ bytes ≡ front ++ back → back ≡ c ∷ more → (front ++ c ∷ []) ++ begun ≡ 45 ∷ behind → ⊥
  no_second b c bytes [] back more behind begun ne parts back_is is = ne ((cons_parts b c bytes more (parts ∙ back_is)).0 ∙ (cons_parts c 45 begun behind is).0)
  no_second b c bytes (a ∷ front) back more behind begun ne parts back_is is = ne ((cons_parts b a bytes (front ++ back) parts).0 ∙ (cons_parts a 45 ((front ++ c ∷ []) ++ begun) behind is).0)

  stops_first : (b : ℕ) (bytes : List ℕ) (left : ℕ) → (b ≡ 45 → ⊥) → first (b ∷ bytes) ≡ Err left → Stops (Either f L g M) (b ∷ bytes) left
  stops_first b bytes left ne e =
      let s = l.stops (b ∷ bytes) left e in
      record {
        front = s.front;
        back = s.back;
        parts = s.parts;
        left_is = s.left_is;
        begins = (f s.begins.0, s.begins.1, inl (s.begins.0, s.begins.2, refl));
        longest = λ c more back_is begun. elim begun.2 [
          | inl h ↦ s.longest c more back_is (h.0, begun.1, h.1)
          | inr h ↦ no_second b c bytes s.front s.back more h.1 begun.1 ne s.parts back_is h.3
        ];
      }

  stops_empty : (left : ℕ) → first [] ≡ Err left → Stops (Either f L g M) [] left
  stops_empty left e =
      let s = l.stops [] left e in
      record {
        front = s.front;
        back = s.back;
        parts = s.parts;
        left_is = s.left_is;
        begins = (f s.begins.0, s.begins.1, inl (s.begins.0, s.begins.2, refl));
        longest = λ c more back_is begun. absurd (omega (arith, ap length s.parts, length-append s.front s.back, ap length back_is));
      }

  stops_second : (b : ℕ) (bytes : List ℕ) (left : ℕ) → b ≡ 45 → second bytes ≡ Err left → Stops (Either f L g M) (b ∷ bytes) left
  stops_second b bytes left is e =
      let s = m.stops bytes left e in
      record {
        front = 45 ∷ s.front;
        back = s.back;
        left_is = s.left_is;
        parts = ap (λ (k : ℕ). k ∷ bytes) is ∙ ap (λ (x : List ℕ). 45 ∷ x) s.parts;
        begins = (g s.begins.0, s.begins.1, inr (s.begins.0, s.front ++ s.begins.1, s.begins.2, refl, refl));
        longest = λ c more back_is begun. elim begun.2 [
          | inl h ↦ avoids h.0 ((s.front ++ c ∷ []) ++ begun.1) h.1
          | inr h ↦ s.longest c more back_is (h.0, begun.1, subst (M h.0) (sym (cons_parts 45 45 ((s.front ++ c ∷ []) ++ begun.1) h.1 h.3).1) h.2)
        ];
      }

  stops_step : (t : Bool) (b : ℕ) (bytes : List ℕ) (left : ℕ) → eqb b 45 ≡ t → cond t (seen g (second bytes)) (seen f (first (b ∷ bytes))) ≡ Err left → Stops (Either f L g M) (b ∷ bytes) left
  stops_step true b bytes left t e = stops_second b bytes left (eqb-true b 45 t) (seen_err g (second bytes) left e)
  stops_step false b bytes left t e = stops_first b bytes left (eqb-false b 45 t) (seen_err f (first (b ∷ bytes)) left e)

  stops : (bytes : List ℕ) (left : ℕ) → either_at f first g second bytes ≡ Err left → Stops (Either f L g M) bytes left
  stops [] left e = stops_empty left (seen_err f (first []) left e)
  stops (b ∷ bytes) left e = stops_step (eqb b 45) b bytes left refl e

  pub either_reads : Reads (Either f L g M) (either_at f first g second)
  either_reads = record { found = found; again = again; stops = stops; some = (f l.some.0, l.some.1, inl (l.some.0, l.some.2, refl)) }

-- ---- a text or none

optional_avoids : (form : TextForm) (v : List ℕ) (t : List ℕ) → IsText form v (45 ∷ t) → ⊥
optional_avoids form v t h = let e = (cons_parts 45 34 t (spelled v ++ 34 ∷ end_byte form.behind ∷ []) h.3).0 in omega arith

optional_full : (form : TextForm) (v : List ℕ) → IsText form v [] → ⊥
optional_full form v h = absurd (omega (arith, ap length h.3))

pub optional_reads : (form : TextForm) → is_text_form form ≡ true → Reads (IsOptional form) (optional_at form)
unfolding optional_at
optional_reads form ok =
    either_reads some_text (IsText form) (text_at form) no_text (IsWord (end_words form.behind)) (words_at (end_words form.behind)) (text_reads form ok) (words_reads (end_byte form.behind ∷ []) [] refl) (optional_avoids form) (optional_full form)

-- ---- a signed number

-- a number begins with a digit
decimal_head : (fuel n : ℕ) → n ≤ fuel → n < 2 ^ 64 → (d : ℕ) × (others : List ℕ) × (decimal n ≡ d ∷ others) × (48 ≤ d)
decimal_head zero n le small = (48 + n, [], decimal_digit n (omega arith), omega arith)
decimal_head (suc fuel) n le small =
    elim (cases_lt n 10) [
      | inl lt ↦ (48 + n, [], decimal_digit n lt, omega arith)
      | inr ge ↦
          let r = decimal_head fuel (n / 10) (omega arith) (omega arith) in
          (r.0, r.1 ++ (48 + n % 10) ∷ [], decimal_step n ge small ∙ ap (λ (t : List ℕ). t ++ (48 + n % 10) ∷ []) r.2, r.3)
    ]

number_avoids : (form : NumberForm) → form.greatest < 2 ^ 64 → (n : ℕ) (t : List ℕ) → IsNumber form n (45 ∷ t) → ⊥
number_avoids form small n t h =
    let r = decimal_head n n (omega arith) (omega (arith, h.1)) in
    let e = (cons_parts 45 r.0 t (r.1 ++ end_byte (end_of form n) ∷ []) (h.2 ∙ ap (λ (x : List ℕ). x ++ end_byte (end_of form n) ∷ []) r.2)).0 in
    omega (arith, r.3)

number_full : (form : NumberForm) (n : ℕ) → IsNumber form n [] → ⊥
number_full form n h = omega (arith, ap length h.2, length-append (decimal n) (end_byte (end_of form n) ∷ []))

pub code_reads : (end : End) → Reads (IsCode end) (code_at end)
unfolding code_at
code_reads end =
    either_reads plus (IsNumber (plus_form end)) (number_at (plus_form end)) minus (IsNumber (minus_form end)) (number_at (minus_form end)) (number_reads (plus_form end) refl) (number_reads (minus_form end) refl) (number_avoids (plus_form end) (omega arith)) (number_full (plus_form end))
