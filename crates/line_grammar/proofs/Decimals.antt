-- Numbers are read and said.
use Rattle.std.proofs.Common.{◌≡◌, ◌⊎◌, ℕ, zero, suc, ◌+◌, ◌-◌, ◌*◌, ◌/◌, ◌%◌, ◌^◌, ◌≤◌, ◌<◌, Bool, true, false, ◌&&◌, ◌||◌, cond, ltb, leb, eqb, List, [], ◌∷◌, ◌++◌, Ok, refl, sym, ap, subst, ◌∙◌, append_assoc, inl, inr, arith}
use Rattle.std.specs.Prelude.{decimal}
use Rattle.std.proofs.lemmas.Fmt.{decimal_digit, decimal_step}
use Rattle.std.proofs.lemmas.Bool.{cases_lt, ltb-true, ltb-false, leb-true, eqb-true, eqb-false, le-ltb, le-leb, eq-eqb, ne_eqb, and_parts, or_parts}
use Rattle.line_grammar.specs.declared.ends.End.{End}
use Rattle.line_grammar.specs.declared.ends.End.TheVariants.{Space, Line}
use Rattle.line_grammar.specs.declared.numbers.NumberForm.{NumberForm}
use Rattle.line_grammar.specs.declared.numbers.NumberStage.{NumberStage}
use Rattle.line_grammar.specs.declared.numbers.NumberStage.TheVariants.{First, Zero, Value}
use Rattle.line_grammar.specs.declared.numbers.NumberMove.TheVariants.{More, Whole, Wrong}
use Rattle.line_grammar.specs.Ends.{end_byte}
use Rattle.line_grammar.specs.Languages.{Begins, Reads}
use Rattle.line_grammar.specs.Automata.{Step, Goes, Ends, after, run}
use Rattle.line_grammar.specs.Numbers.{end_of, number_text, IsNumber, is_number_form, number_step_of, number_step, number_at}
use Rattle.line_grammar.specs.Dashes.{number_form}
use Rattle.line_grammar.proofs.Machines.{machine_reads}

-- ---- digits

pub decimal_push : (n d : ℕ) → 1 ≤ n → d < 10 → 10 * n + d < 2 ^ 64 → decimal (10 * n + d) ≡ decimal n ++ (48 + d) ∷ []
decimal_push n d one digit small =
    let ten : 10 ≤ 10 * n + d = omega arith in
    let q : (10 * n + d) / 10 ≡ n = omega arith in
    let r : (10 * n + d) % 10 ≡ d = omega arith in
    decimal_step (10 * n + d) ten small ∙ ap (λ (k : ℕ). decimal k ++ (48 + (10 * n + d) % 10) ∷ []) q ∙ ap (λ (k : ℕ). decimal n ++ (48 + k) ∷ []) r

end_of-pos : (form : NumberForm) (n : ℕ) → 1 ≤ n → end_of form n ≡ form.behind
end_of-pos form zero one = absurd (omega arith)
end_of-pos form (suc n) one = refl

-- the spelling of a number with one end
pub number_whole : (least greatest : ℕ) (end : End) (n : ℕ) → number_text (number_form least greatest end) n ≡ decimal n ++ end_byte end ∷ []
number_whole least greatest end zero = refl
number_whole least greatest end (suc n) = refl

-- what the form's test says
pub record Bounds (form : NumberForm) : Type 0 where
  pub low : form.least ≤ 1
  pub high : 1 ≤ form.greatest
  pub small : form.greatest < 2 ^ 64

pub bounds_of : (form : NumberForm) → is_number_form form ≡ true → Bounds form
bounds_of form ok =
    let p = and_parts (leb form.least 1) (leb 1 form.greatest && ltb form.greatest (2 ^ 64)) ok in
    let q = and_parts (leb 1 form.greatest) (ltb form.greatest (2 ^ 64)) p.1 in
    record { low = leb-true form.least 1 p.0; high = leb-true 1 form.greatest q.0; small = ltb-true form.greatest (2 ^ 64) q.1 }

-- ---- where each stage stands

abbrev pub Stands : NumberForm → NumberStage → List ℕ → Type 0
Stands form First front = front ≡ []
Stands form Zero front = (form.least ≡ 0) × (front ≡ 48 ∷ [])
Stands form (Value n) front = (1 ≤ n) × (n ≤ form.greatest) × (front ≡ decimal n)

abbrev goes : NumberStage → Step NumberStage ℕ
goes s = Goes s

abbrev ends : ℕ → Step NumberStage ℕ
ends n = Ends n

goes_is : (s t : NumberStage) → goes s ≡ goes t → s ≡ t
goes_is s t e = cc

ends_is : (m n : ℕ) → ends m ≡ ends n → m ≡ n
ends_is m n e = cc

-- ---- what each stage's choices give

first_goes : (zero_digit none wrong : Bool) (m : ℕ) (s : NumberStage) → number_step_of (cond zero_digit (cond none (More Zero) Wrong) (cond wrong Wrong (More (Value m)))) ≡ goes s
    → ((zero_digit ≡ true) × (none ≡ true) × (Zero ≡ s)) ⊎ ((zero_digit ≡ false) × (wrong ≡ false) × (Value m ≡ s))
first_goes true true wrong m s e = inl (refl, refl, goes_is Zero s e)
first_goes true false wrong m s e = absurd cc
first_goes false none true m s e = absurd cc
first_goes false none false m s e = inr (refl, refl, goes_is (Value m) s e)

first_ends : (zero_digit none wrong : Bool) (m n : ℕ) → number_step_of (cond zero_digit (cond none (More Zero) Wrong) (cond wrong Wrong (More (Value m)))) ≡ ends n → ⊥
first_ends true true wrong m n e = cc
first_ends true false wrong m n e = cc
first_ends false none true m n e = cc
first_ends false none false m n e = cc

zero_goes : (at_end : Bool) (s : NumberStage) → number_step_of (cond at_end (Whole 0) Wrong) ≡ goes s → ⊥
zero_goes true s e = cc
zero_goes false s e = cc

zero_ends : (at_end : Bool) (n : ℕ) → number_step_of (cond at_end (Whole 0) Wrong) ≡ ends n → (at_end ≡ true) × (0 ≡ n)
zero_ends true n e = (refl, ends_is 0 n e)
zero_ends false n e = absurd cc

value_goes : (none at_end fits : Bool) (n m : ℕ) (s : NumberStage) → number_step_of (cond none (cond at_end (Whole n) Wrong) (cond fits (More (Value m)) Wrong)) ≡ goes s → (none ≡ false) × (fits ≡ true) × (Value m ≡ s)
value_goes true true fits n m s e = absurd cc
value_goes true false fits n m s e = absurd cc
value_goes false at_end true n m s e = (refl, refl, goes_is (Value m) s e)
value_goes false at_end false n m s e = absurd cc

value_ends : (none at_end fits : Bool) (n m k : ℕ) → number_step_of (cond none (cond at_end (Whole n) Wrong) (cond fits (More (Value m)) Wrong)) ≡ ends k → (at_end ≡ true) × (n ≡ k)
value_ends true true fits n m k e = (refl, ends_is n k e)
value_ends true false fits n m k e = absurd cc
value_ends false at_end true n m k e = absurd cc
value_ends false at_end false n m k e = absurd cc

-- ---- the steps

-- a byte that is no digit is below 48 or above 57
digit_of : (b : ℕ) → (ltb b 48 || ltb 57 b) ≡ false → (48 ≤ b) × (b ≤ 57)
digit_of b e = let p = or_parts (ltb b 48) (ltb 57 b) e in (ltb-false b 48 p.0, ltb-false 57 b p.1)

first_value : (f : NumberForm) (x : List ℕ) (c : ℕ) → x ≡ [] → (c ≡ 48 → ⊥) → ((ltb c 48 || ltb 57 c) || ltb f.greatest (c - 48)) ≡ false → Stands f (Value (c - 48)) (x ++ c ∷ [])
first_value f x c x_is no_zero q =
    let p = or_parts (ltb c 48 || ltb 57 c) (ltb f.greatest (c - 48)) q in
    let d = digit_of c p.0 in
    let digit : c - 48 < 10 = omega arith in
    let digit_is : 48 + (c - 48) ≡ c = omega arith in
    (omega arith, ltb-false f.greatest (c - 48) p.1, ap (λ (y : List ℕ). y ++ c ∷ []) x_is ∙ ap (λ (k : ℕ). k ∷ []) (sym digit_is) ∙ sym (decimal_digit (c - 48) digit))

number_goes : (form : NumberForm) → Bounds form → (s : NumberStage) (front : List ℕ) (b : ℕ) (t : NumberStage) → Stands form s front → number_step form s b ≡ Goes t → Stands form t (front ++ b ∷ [])
number_goes form bounds First front b t h e =
    elim (first_goes (eqb b 48) (eqb form.least 0) ((ltb b 48 || ltb 57 b) || ltb form.greatest (b - 48)) (b - 48) t e) [
      | inl p ↦ subst (λ (u : NumberStage). Stands form u (front ++ b ∷ [])) p.2 (eqb-true form.least 0 p.1, ap (λ (x : List ℕ). x ++ b ∷ []) h ∙ ap (λ (k : ℕ). k ∷ []) (eqb-true b 48 p.0))
      | inr p ↦ subst (λ (u : NumberStage). Stands form u (front ++ b ∷ [])) p.2 (first_value form front b h (eqb-false b 48 p.0) p.1)
    ]
number_goes form bounds Zero front b t h e = absurd (zero_goes (eqb b (end_byte form.behind_zero)) t e)
number_goes form bounds (Value n) front b t h e =
    let p = value_goes (ltb b 48 || ltb 57 b) (eqb b (end_byte form.behind)) (leb (10 * n + (b - 48)) form.greatest) n (10 * n + (b - 48)) t e in
    let d = digit_of b p.0 in
    let fits : 10 * n + (b - 48) ≤ form.greatest = leb-true (10 * n + (b - 48)) form.greatest p.1 in
    let digit_is : 48 + (b - 48) ≡ b = omega arith in
    let n_is : front ++ b ∷ [] ≡ decimal (10 * n + (b - 48)) = ap (λ (x : List ℕ). x ++ b ∷ []) h.2 ∙ ap (λ (k : ℕ). decimal n ++ k ∷ []) (sym digit_is) ∙ sym (decimal_push n (b - 48) h.0 (omega arith) (omega (arith, bounds.small))) in
    subst (λ (u : NumberStage). Stands form u (front ++ b ∷ [])) p.2 (omega (arith, h.0), fits, n_is)

number_ends : (form : NumberForm) → Bounds form → (s : NumberStage) (front : List ℕ) (b n : ℕ) → Stands form s front → number_step form s b ≡ Ends n → IsNumber form n (front ++ b ∷ [])
number_ends form bounds First front b n h e = absurd (first_ends (eqb b 48) (eqb form.least 0) ((ltb b 48 || ltb 57 b) || ltb form.greatest (b - 48)) (b - 48) n e)
number_ends form bounds Zero front b n h e =
    let p = zero_ends (eqb b (end_byte form.behind_zero)) n e in
    let at : b ≡ end_byte form.behind_zero = eqb-true b (end_byte form.behind_zero) p.0 in
    subst (λ (k : ℕ). IsNumber form k (front ++ b ∷ [])) p.1
    (omega (arith, h.0), omega arith, ap (λ (x : List ℕ). x ++ b ∷ []) h.1 ∙ ap (λ (k : ℕ). 48 ∷ k ∷ []) at ∙ ap (λ (x : List ℕ). x ++ end_byte form.behind_zero ∷ []) (sym (decimal_digit 0 (omega arith))))
number_ends form bounds (Value m) front b n h e =
    let p = value_ends (ltb b 48 || ltb 57 b) (eqb b (end_byte form.behind)) (leb (10 * m + (b - 48)) form.greatest) m (10 * m + (b - 48)) n e in
    let at : b ≡ end_byte form.behind = eqb-true b (end_byte form.behind) p.0 in
    subst (λ (k : ℕ). IsNumber form k (front ++ b ∷ [])) p.1
    (omega (arith, h.0, bounds.low), h.1, ap (λ (x : List ℕ). x ++ b ∷ []) h.2 ∙ ap (λ (k : ℕ). decimal m ++ k ∷ []) at ∙ ap (λ (x : End). decimal m ++ end_byte x ∷ []) (sym (end_of-pos form m h.0)))

number_begins : (form : NumberForm) → Bounds form → (s : NumberStage) (front : List ℕ) → Stands form s front → Begins (IsNumber form) front
number_begins form bounds First front h = (1, number_text form 1, (bounds.low, bounds.high, ap (λ (x : List ℕ). x ++ number_text form 1) h))
number_begins form bounds Zero front h = (0, end_byte form.behind_zero ∷ [], (omega (arith, h.0), omega arith, ap (λ (x : List ℕ). x ++ end_byte form.behind_zero ∷ []) (h.1 ∙ sym (decimal_digit 0 (omega arith)))))
number_begins form bounds (Value n) front h = (n, end_byte form.behind ∷ [], (omega (arith, h.0, bounds.low), h.1, ap (λ (x : List ℕ). x ++ end_byte form.behind ∷ []) h.2 ∙ ap (λ (x : End). decimal n ++ end_byte x ∷ []) (sym (end_of-pos form n h.0))))

-- ---- a number's digits lead to its value

value_on : (form : NumberForm) (n b : ℕ) → 48 ≤ b → b ≤ 57 → 10 * n + (b - 48) ≤ form.greatest → number_step form (Value n) b ≡ Goes (Value (10 * n + (b - 48)))
value_on form n b low high fits = rw (le-ltb b 48 low, le-ltb 57 b high, le-leb (10 * n + (b - 48)) form.greatest fits) refl

first_on : (form : NumberForm) (b : ℕ) → 49 ≤ b → b ≤ 57 → b - 48 ≤ form.greatest → number_step form First b ≡ Goes (Value (b - 48))
first_on form b low high fits =
    let no_zero : eqb b 48 ≡ false = ne_eqb b 48 (λ e. omega arith) in
    let low_enough : 48 ≤ b = omega arith in
    rw (no_zero, le-ltb b 48 low_enough, le-ltb 57 b high, le-ltb form.greatest (b - 48) fits) refl

pub leads : (form : NumberForm) → Bounds form → (fuel n : ℕ) → n ≤ fuel → 1 ≤ n → n ≤ form.greatest → (x : List ℕ) → run (number_step form) First (decimal n ++ x) ≡ run (number_step form) (Value n) x
leads form bounds zero n le one high x = absurd (omega arith)
leads form bounds (suc fuel) n le one high x =
    elim (cases_lt n 10) [
      | inl lt ↦
          let at : number_step form First (48 + n) ≡ Goes (Value (48 + n - 48)) = first_on form (48 + n) (omega arith) (omega arith) (omega arith) in
          let back : 48 + n - 48 ≡ n = omega arith in
          ap (λ (t : List ℕ). run (number_step form) First (t ++ x)) (decimal_digit n lt) ∙ ap (λ (s : Step NumberStage ℕ). after s (λ t. run (number_step form) t x) x) at ∙ ap (λ (k : ℕ). run (number_step form) (Value k) x) back
      | inr ge ↦
          let d : ℕ = 48 + n % 10 in
          let next_is : 10 * (n / 10) + (d - 48) ≡ n = omega arith in
          let at : number_step form (Value (n / 10)) d ≡ Goes (Value (10 * (n / 10) + (d - 48))) = value_on form (n / 10) d (omega arith) (omega arith) (omega arith) in
          let small : n < 2 ^ 64 = omega (arith, bounds.small) in
          let before = leads form bounds fuel (n / 10) (omega arith) (omega arith) (omega arith) (d ∷ x) in
          ap (λ (t : List ℕ). run (number_step form) First (t ++ x)) (decimal_step n ge small) ∙ ap (run (number_step form) First) (append_assoc (decimal (n / 10)) (d ∷ []) x) ∙ before
          ∙ ap (λ (s : Step NumberStage ℕ). after s (λ t. run (number_step form) t x) x) at ∙ ap (λ (k : ℕ). run (number_step form) (Value k) x) next_is
    ]

end_low : (end : End) → ltb (end_byte end) 48 ≡ true
end_low Space = refl
end_low Line = refl

value_done : (form : NumberForm) (n : ℕ) (rest : List ℕ) → run (number_step form) (Value n) (end_byte form.behind ∷ rest) ≡ Ok (n, rest)
value_done form n rest = rw (end_low form.behind, eq-eqb (end_byte form.behind) (end_byte form.behind) refl) refl

zero_done : (form : NumberForm) (rest : List ℕ) → form.least ≡ 0 → run (number_step form) First (48 ∷ end_byte form.behind_zero ∷ rest) ≡ Ok (0, rest)
zero_done form rest h = rw (eq-eqb form.least 0 h, eq-eqb (end_byte form.behind_zero) (end_byte form.behind_zero) refl) refl

number_again : (form : NumberForm) → Bounds form → (n : ℕ) (text rest : List ℕ) → IsNumber form n text → run (number_step form) First (text ++ rest) ≡ Ok (n, rest)
number_again form bounds zero text rest h =
    ap (λ (t : List ℕ). run (number_step form) First (t ++ rest)) (h.2 ∙ ap (λ (t : List ℕ). t ++ end_byte form.behind_zero ∷ []) (decimal_digit 0 (omega arith))) ∙ zero_done form rest (omega (arith, h.0))
number_again form bounds (suc n) text rest h =
    let regroup : text ++ rest ≡ decimal (suc n) ++ (end_byte form.behind ∷ rest) = ap (λ (t : List ℕ). t ++ rest) h.2 ∙ append_assoc (decimal (suc n)) (end_byte form.behind ∷ []) rest in
    ap (run (number_step form) First) regroup ∙ leads form bounds (suc n) (suc n) (omega arith) (omega arith) h.1 (end_byte form.behind ∷ rest) ∙ value_done form (suc n) rest

-- the numbers of a form are read as they are spelled
pub number_reads : (form : NumberForm) → is_number_form form ≡ true → Reads (IsNumber form) (number_at form)
unfolding number_at
number_reads form ok =
    let bounds = bounds_of form ok in
    machine_reads (IsNumber form) (number_step form) First (Stands form) (record {
      starts = refl;
      goes = number_goes form bounds;
      ends = number_ends form bounds;
      begins = number_begins form bounds;
      again = number_again form bounds;
    })
