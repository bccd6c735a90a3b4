-- Texts are read and said.
use Rattle.std.proofs.Common.{◌≡◌, ◌⊎◌, ℕ, zero, suc, ◌+◌, ◌-◌, ◌/◌, ◌%◌, ◌≤◌, ◌<◌, Bool, true, false, ◌||◌, cond, ltb, leb, eqb, List, [], ◌∷◌, ◌++◌, length, Option, Some, None, Ok, refl, sym, ap, subst, ◌∙◌, append_assoc, inl, inr, arith, length-append}
use Rattle.std.specs.Str.{IsUtf8}
use lib.Utf8.{scalar, scalars, encode, encodes}
use Rattle.std.proofs.lemmas.Bool.{cases_lt, cases_eq, ltb-true, ltb-false, leb-true, eqb-true, eqb-false, lt-ltb, le-ltb, le-leb, eq-eqb, ne_eqb, and_parts, or_parts, or_cases, cond_both}
use Rattle.std.proofs.lemmas.List.{append-nil}
use Rattle.std.proofs.lemmas.List.Concat.{flat_map-append}
use Rattle.std.proofs.lemmas.Str.{IsUtf8-append, IsUtf8-nil, IsUtf8-encode, encode_ascii}
use Rattle.line_grammar.specs.declared.texts.TextForm.{TextForm}
use Rattle.line_grammar.specs.declared.texts.Tail.{Tail}
use Rattle.line_grammar.specs.declared.texts.TextStage.{TextStage}
use Rattle.line_grammar.specs.declared.texts.TextStage.TheVariants.{Opening, Open, Inside, Slash, Hex, Closed}
use Rattle.line_grammar.specs.declared.texts.TextMove.{TextMove}
use Rattle.line_grammar.specs.declared.texts.TextMove.TheVariants.{Stay, Add, Whole, Wrong}
use Rattle.line_grammar.specs.Ends.{end_byte}
use Rattle.line_grammar.specs.Languages.{Begins, Reads}
use Rattle.line_grammar.specs.Automata.{Step, Goes, Ends, after, run}
use Rattle.line_grammar.specs.Texts.{hex_digit, escape, spelled, text_text, IsText, is_text_form, tail_of, stage_behind, lead_move, text_move, text_step_of, text_step, text_at}
use Rattle.line_grammar.proofs.Machines.{machine_reads}
use Rattle.line_grammar.proofs.Utf8.{AreNext, IsTail, tail, lead_of, IsWide, wide}

-- ---- how bytes are written

abbrev first_digit : Bool → ℕ
first_digit one = cond one 49 48

escape_plain : (b : ℕ) → 32 ≤ b → (b ≡ 34 → ⊥) → (b ≡ 92 → ⊥) → escape b ≡ b ∷ []
escape_plain b p q r = rw (ne_eqb b 34 q, ne_eqb b 92 r, le-ltb b 32 p) refl

escape_high : (b : ℕ) → 128 ≤ b → escape b ≡ b ∷ []
escape_high b p = escape_plain b (omega arith) (λ e. omega arith) (λ e. omega arith)

escape_low : (b : ℕ) → b < 32 → escape b ≡ 92 ∷ (48 + b / 16) ∷ hex_digit (b % 16) ∷ []
escape_low b p = rw (ne_eqb b 34 (λ e. omega arith), ne_eqb b 92 (λ e. omega arith), lt-ltb b 32 p) refl

cells : (a b x y : ℕ) → a ≡ x → b ≡ y → 92 ∷ a ∷ b ∷ [] ≡ 92 ∷ x ∷ y ∷ []
cells a b x y p q = cc

-- an escape in digits says the value of its digits
hex_said : (one : Bool) (d b : ℕ) → d < 16 → hex_digit d ≡ b → escape (cond one 16 0 + d) ≡ 92 ∷ first_digit one ∷ b ∷ []
hex_said true d b p q =
    let rest : (16 + d) % 16 ≡ d = omega arith in
    escape_low (16 + d) (omega arith) ∙ cells (48 + (16 + d) / 16) (hex_digit ((16 + d) % 16)) 49 b (omega arith) (ap hex_digit rest ∙ q)
hex_said false d b p q =
    let rest : (0 + d) % 16 ≡ d = omega arith in
    escape_low (0 + d) (omega arith) ∙ cells (48 + (0 + d) / 16) (hex_digit ((0 + d) % 16)) 48 b (omega arith) (ap hex_digit rest ∙ q)

hex_figure : (d : ℕ) → d < 10 → hex_digit d ≡ 48 + d
hex_figure d p = rw (lt-ltb d 10 p) refl

hex_letter : (d : ℕ) → 10 ≤ d → hex_digit d ≡ 87 + d
hex_letter d p = rw (le-ltb d 10 p) refl

spelled_push : (front : List ℕ) (b : ℕ) → spelled (front ++ b ∷ []) ≡ spelled front ++ escape b
spelled_push front b = flat_map-append escape front (b ∷ []) ∙ ap (λ (t : List ℕ). spelled front ++ t) (append-nil (escape b))

-- one more byte of the text, whose last written byte is b
said_push : (front raw written : List ℕ) (c b : ℕ) → raw ≡ 34 ∷ (spelled front ++ written) → escape c ≡ written ++ b ∷ [] → raw ++ b ∷ [] ≡ 34 ∷ spelled (front ++ c ∷ [])
said_push front raw written c b said is =
    ap (λ (t : List ℕ). t ++ b ∷ []) said ∙ ap (λ (t : List ℕ). 34 ∷ t) (append_assoc (spelled front) written (b ∷ []) ∙ ap (λ (t : List ℕ). spelled front ++ t) (sym is) ∙ sym (spelled_push front c))

nothing_more : (front raw : List ℕ) → raw ≡ 34 ∷ spelled front → raw ≡ 34 ∷ (spelled front ++ [])
nothing_more front raw said = said ∙ ap (λ (t : List ℕ). 34 ∷ t) (sym (append-nil (spelled front)))

utf8_ascii : (b : ℕ) → b < 128 → IsUtf8 (b ∷ [])
utf8_ascii b p = subst (λ (t : List ℕ). IsUtf8 t) (encode_ascii b p) (IsUtf8-encode b (low b (omega arith))) where
  low : (c : ℕ) → c < 55296 → scalar c ≡ true
  low c h = rw (lt-ltb c 55296 h) refl

utf8_push : (front : List ℕ) (b : ℕ) → IsUtf8 front → b < 128 → IsUtf8 (front ++ b ∷ [])
utf8_push front b u p = IsUtf8-append front (b ∷ []) u (utf8_ascii b p)

length_push : (front : List ℕ) (b : ℕ) → length (front ++ b ∷ []) ≡ length front + 1
length_push front b = length-append front (b ∷ []) ∙ one (length front) where
  one : (n : ℕ) → n + 1 ≡ n + 1
  one n = refl

-- ---- where each stage stands, with this text read from these bytes

pub record IsOpen (form : TextForm) (front raw : List ℕ) : Type 0 where
  pub utf8 : IsUtf8 front
  pub fits : length front ≤ form.greatest
  pub said : raw ≡ 34 ∷ spelled front

pub record IsInside (form : TextForm) (s : Tail) (front raw : List ℕ) : Type 0 where
  pub whole : (bs : List ℕ) → IsTail s bs → IsUtf8 (front ++ bs)
  pub low : 128 ≤ s.low
  pub between : s.low ≤ s.high
  pub high : s.high ≤ 191
  pub fits : length front + 1 + s.more ≤ form.greatest
  pub said : raw ≡ 34 ∷ spelled front

pub record IsEscape (form : TextForm) (front raw written : List ℕ) : Type 0 where
  pub utf8 : IsUtf8 front
  pub fits : length front < form.greatest
  pub said : raw ≡ 34 ∷ (spelled front ++ written)

pub record IsClosed (form : TextForm) (front raw : List ℕ) : Type 0 where
  pub utf8 : IsUtf8 front
  pub least : form.least ≤ length front
  pub fits : length front ≤ form.greatest
  pub said : raw ≡ 34 ∷ (spelled front ++ 34 ∷ [])

abbrev pub StandsAt : TextForm → TextStage → List ℕ → List ℕ → Type 0
StandsAt form Opening front raw = (front ≡ []) × (raw ≡ [])
StandsAt form Open front raw = IsOpen form front raw
StandsAt form (Inside s) front raw = IsInside form s front raw
StandsAt form Slash front raw = IsEscape form front raw (92 ∷ [])
StandsAt form (Hex one) front raw = IsEscape form front raw (92 ∷ first_digit one ∷ [])
StandsAt form Closed front raw = IsClosed form front raw

-- what a move says of the next byte
abbrev After : TextForm → List ℕ → List ℕ → ℕ → TextMove → Type 0
After form front raw b (Stay stage) = StandsAt form stage front (raw ++ b ∷ [])
After form front raw b (Add c stage) = StandsAt form stage (front ++ c ∷ []) (raw ++ b ∷ [])
After form front raw b Whole = IsText form front (raw ++ b ∷ [])
After form front raw b Wrong = Unit {0}

-- ---- the steps

add_open : (form : TextForm) (front raw written : List ℕ) (c b : ℕ) → IsUtf8 (front ++ c ∷ []) → length front < form.greatest → raw ≡ 34 ∷ (spelled front ++ written) → escape c ≡ written ++ b ∷ [] → IsOpen form (front ++ c ∷ []) (raw ++ b ∷ [])
add_open form front raw written c b u fits said is = record { utf8 = u; fits = omega (arith, length_push front c); said = said_push front raw written c b said is }

opening_moves : (form : TextForm) (front raw : List ℕ) (b : ℕ) → (front ≡ []) × (raw ≡ []) → After form front raw b (text_move form Opening (length front) b)
opening_moves form front raw b h =
    cond_both (eqb b 34) (Stay Open) Wrong (After form front raw b) (λ t. record {
      utf8 = subst (λ (x : List ℕ). IsUtf8 x) (sym h.0) IsUtf8-nil;
      fits = omega (arith, ap length h.0);
      said = ap (λ (x : List ℕ). x ++ b ∷ []) h.1 ∙ ap (λ (k : ℕ). k ∷ []) (eqb-true b 34 t) ∙ ap (λ (x : List ℕ). 34 ∷ spelled x) (sym h.0);
    }) (λ t. tt)

lead_moves : (form : TextForm) (front raw : List ℕ) (b : ℕ) (o : Option Tail) → tail_of b ≡ o → IsOpen form front raw → After form front raw b (lead_move form (length front) b o)
lead_moves form front raw b None is h = tt
lead_moves form front raw b (Some s) is h =
    let lead = lead_of b s is in
    cond_both (leb (length front + 2 + s.more) form.greatest) (Add b (Inside s)) Wrong (After form front raw b) (λ t. record {
      whole = λ bs m. subst (λ (x : List ℕ). IsUtf8 x) (sym (append_assoc front (b ∷ []) bs)) (IsUtf8-append front (b ∷ bs) h.utf8 (lead.whole bs m));
      low = lead.low;
      between = lead.between;
      high = lead.high;
      fits = omega (arith, length_push front b, leb-true (length front + 2 + s.more) form.greatest t);
      said = said_push front raw [] b b (nothing_more front raw h.said) (escape_high b lead.first);
    }) (λ t. tt)

open_moves : (form : TextForm) (front raw : List ℕ) (b : ℕ) → IsOpen form front raw → After form front raw b (text_move form Open (length front) b)
open_moves form front raw b h =
    cond_both (eqb b 34) (cond (leb form.least (length front)) (Stay Closed) Wrong) _ (After form front raw b)
    (λ q. cond_both (leb form.least (length front)) (Stay Closed) Wrong (After form front raw b) (λ t. record {
      utf8 = h.utf8;
      least = leb-true form.least (length front) t;
      fits = h.fits;
      said = ap (λ (x : List ℕ). x ++ b ∷ []) h.said ∙ ap (λ (k : ℕ). 34 ∷ (spelled front ++ k ∷ [])) (eqb-true b 34 q);
    }) (λ t. tt))
    (λ no_quote. cond_both (eqb b 92) (cond (ltb (length front) form.greatest) (Stay Slash) Wrong) _ (After form front raw b)
    (λ q. cond_both (ltb (length front) form.greatest) (Stay Slash) Wrong (After form front raw b) (λ t. record {
      utf8 = h.utf8;
      fits = ltb-true (length front) form.greatest t;
      said = ap (λ (x : List ℕ). x ++ b ∷ []) h.said ∙ ap (λ (k : ℕ). 34 ∷ (spelled front ++ k ∷ [])) (eqb-true b 92 q);
    }) (λ t. tt))
    (λ no_slash. cond_both (ltb b 32) Wrong _ (After form front raw b) (λ q. tt)
    (λ printed. cond_both (ltb b 128) (cond (ltb (length front) form.greatest) (Add b Open) Wrong) (lead_move form (length front) b (tail_of b)) (After form front raw b)
    (λ q. cond_both (ltb (length front) form.greatest) (Add b Open) Wrong (After form front raw b)
    (λ t. add_open form front raw [] b b (utf8_push front b h.utf8 (ltb-true b 128 q)) (ltb-true (length front) form.greatest t) (nothing_more front raw h.said)
    (escape_plain b (ltb-false b 32 printed) (eqb-false b 34 no_quote) (eqb-false b 92 no_slash)))
    (λ t. tt))
    (λ q. lead_moves form front raw b (tail_of b) refl h))))

-- behind one byte of a character's rest
inside_next : (form : TextForm) (front raw : List ℕ) (b low high : ℕ) (more : ℕ) → IsInside form (tail low high more) front raw → low ≤ b → b ≤ high → StandsAt form (stage_behind more) (front ++ b ∷ []) (raw ++ b ∷ [])
inside_next form front raw b low high zero h p q = record {
  utf8 = h.whole (b ∷ []) (p, q, tt);
  fits = omega (arith, length_push front b, h.fits);
  said = said_push front raw [] b b (nothing_more front raw h.said) (escape_high b (omega (arith, h.low)));
}
inside_next form front raw b low high (suc n) h p q = record {
  whole = on;
  low = omega arith;
  between = omega arith;
  high = omega arith;
  fits = omega (arith, length_push front b, h.fits);
  said = said_push front raw [] b b (nothing_more front raw h.said) (escape_high b (omega (arith, h.low)));
} where
  on : (bs : List ℕ) → IsTail (tail 128 191 n) bs → IsUtf8 ((front ++ b ∷ []) ++ bs)
  on [] m = absurd m
  on (c ∷ bs) m = subst (λ (x : List ℕ). IsUtf8 x) (sym (append_assoc front (b ∷ []) (c ∷ bs))) (h.whole (b ∷ c ∷ bs) (p, q, (m.0, m.1, m.2)))

at_add : (form : TextForm) (front raw : List ℕ) (b : ℕ) (stage : TextStage) → StandsAt form stage (front ++ b ∷ []) (raw ++ b ∷ []) → After form front raw b (Add b stage)
at_add form front raw b stage h = h

inside_moves : (form : TextForm) (s : Tail) (front raw : List ℕ) (b : ℕ) → IsInside form s front raw → After form front raw b (text_move form (Inside s) (length front) b)
inside_moves form s front raw b h =
    cond_both (ltb b s.low || ltb s.high b) Wrong (Add b (stage_behind s.more)) (After form front raw b) (λ t. tt) (λ t.
    let p = or_parts (ltb b s.low) (ltb s.high b) t in
    at_add form front raw b (stage_behind s.more) (inside_next form front raw b s.low s.high s.more h (ltb-false b s.low p.0) (ltb-false s.high b p.1)))

quote_said : (b : ℕ) → (b ≡ 34) ⊎ (b ≡ 92) → (escape b ≡ (92 ∷ []) ++ b ∷ []) × (b < 128)
quote_said b (inl is) = (ap escape is ∙ ap (λ (k : ℕ). 92 ∷ k ∷ []) (sym is), omega arith)
quote_said b (inr is) = (ap escape is ∙ ap (λ (k : ℕ). 92 ∷ k ∷ []) (sym is), omega arith)

digit_is : (b : ℕ) (t : Bool) → eqb b 49 ≡ t → (eqb b 48 || t) ≡ true → b ≡ first_digit t
digit_is b true e d = eqb-true b 49 e
digit_is b false e d = elim (or_cases (eqb b 48) false d) [ inl k ↦ eqb-true b 48 k | inr k ↦ absurd cc ]

slash_moves : (form : TextForm) (front raw : List ℕ) (b : ℕ) → IsEscape form front raw (92 ∷ []) → After form front raw b (text_move form Slash (length front) b)
slash_moves form front raw b h =
    cond_both (eqb b 34 || eqb b 92) (Add b Open) _ (After form front raw b)
    (λ t.
    let is : (b ≡ 34) ⊎ (b ≡ 92) = elim (or_cases (eqb b 34) (eqb b 92) t) [ inl k ↦ inl (eqb-true b 34 k) | inr k ↦ inr (eqb-true b 92 k) ] in
    let q = quote_said b is in
    add_open form front raw (92 ∷ []) b b (utf8_push front b h.utf8 q.1) h.fits h.said q.0)
    (λ t. cond_both (eqb b 48 || eqb b 49) (Stay (Hex (eqb b 49))) Wrong (After form front raw b)
    (λ d. record {
      utf8 = h.utf8;
      fits = h.fits;
      said = ap (λ (x : List ℕ). x ++ b ∷ []) h.said ∙ ap (λ (x : List ℕ). 34 ∷ x) (append_assoc (spelled front) (92 ∷ []) (b ∷ [])) ∙ ap (λ (k : ℕ). 34 ∷ (spelled front ++ 92 ∷ k ∷ [])) (digit_is b (eqb b 49) refl d);
    })
    (λ d. tt))

hex_small : (one : Bool) (d : ℕ) → d < 16 → cond one 16 0 + d < 128
hex_small true d p = omega arith
hex_small false d p = omega arith

hex_added : (form : TextForm) (one : Bool) (front raw : List ℕ) (d b : ℕ) → IsEscape form front raw (92 ∷ first_digit one ∷ []) → d < 16 → hex_digit d ≡ b → After form front raw b (Add (cond one 16 0 + d) Open)
hex_added form one front raw d b h p q =
    add_open form front raw (92 ∷ first_digit one ∷ []) (cond one 16 0 + d) b (utf8_push front (cond one 16 0 + d) h.utf8 (hex_small one d p)) h.fits h.said (hex_said one d b p q)

hex_moves : (form : TextForm) (one : Bool) (front raw : List ℕ) (b : ℕ) → IsEscape form front raw (92 ∷ first_digit one ∷ []) → After form front raw b (text_move form (Hex one) (length front) b)
hex_moves form one front raw b h =
    cond_both (ltb b 48) Wrong _ (After form front raw b) (λ t. tt) (λ t48.
    let low : 48 ≤ b = ltb-false b 48 t48 in
    cond_both (ltb b 58) (Add (cond one 16 0 + (b - 48)) Open) _ (After form front raw b)
    (λ t. let lt = ltb-true b 58 t in let small : b - 48 < 10 = omega arith in let back : 48 + (b - 48) ≡ b = omega arith in
    hex_added form one front raw (b - 48) b h (omega arith) (hex_figure (b - 48) small ∙ back))
    (λ t58. cond_both (ltb b 97) Wrong _ (After form front raw b) (λ t. tt) (λ t97.
    let ge : 97 ≤ b = ltb-false b 97 t97 in
    cond_both (ltb b 103) (Add (cond one 16 0 + (b - 87)) Open) Wrong (After form front raw b)
    (λ t. let lt = ltb-true b 103 t in let large : 10 ≤ b - 87 = omega arith in let back : 87 + (b - 87) ≡ b = omega arith in
    hex_added form one front raw (b - 87) b h (omega arith) (hex_letter (b - 87) large ∙ back))
    (λ t. tt))))

closed_moves : (form : TextForm) (front raw : List ℕ) (b : ℕ) → IsClosed form front raw → After form front raw b (text_move form Closed (length front) b)
closed_moves form front raw b h =
    cond_both (eqb b (end_byte form.behind)) Whole Wrong (After form front raw b)
    (λ t. (h.utf8, h.least, h.fits, ap (λ (x : List ℕ). x ++ b ∷ []) h.said ∙ ap (λ (x : List ℕ). 34 ∷ x) (append_assoc (spelled front) (34 ∷ []) (b ∷ [])) ∙ ap (λ (k : ℕ). 34 ∷ (spelled front ++ 34 ∷ k ∷ [])) (eqb-true b (end_byte form.behind) t)))
    (λ t. tt)

moves : (form : TextForm) (stage : TextStage) (front raw : List ℕ) (b : ℕ) → StandsAt form stage front raw → After form front raw b (text_move form stage (length front) b)
moves form Opening front raw b h = opening_moves form front raw b h
moves form Open front raw b h = open_moves form front raw b h
moves form (Inside s) front raw b h = inside_moves form s front raw b h
moves form Slash front raw b h = slash_moves form front raw b h
moves form (Hex one) front raw b h = hex_moves form one front raw b h
moves form Closed front raw b h = closed_moves form front raw b h

abbrev pub Stands : TextForm → TextStage × List ℕ → List ℕ → Type 0
Stands form s raw = StandsAt form s.0 s.1 raw

abbrev goes : TextStage × List ℕ → Step (TextStage × List ℕ) (List ℕ)
goes s = Goes s

abbrev ends : List ℕ → Step (TextStage × List ℕ) (List ℕ)
ends v = Ends v

goes_is : (s t : TextStage × List ℕ) → goes s ≡ goes t → s ≡ t
goes_is s t e = cc

ends_is : (v w : List ℕ) → ends v ≡ ends w → v ≡ w
ends_is v w e = cc

move_goes : (form : TextForm) (front raw : List ℕ) (b : ℕ) (t : TextStage × List ℕ) (m : TextMove) → After form front raw b m → text_step_of front m ≡ goes t → Stands form t (raw ++ b ∷ [])
move_goes form front raw b t (Stay stage) h e = subst (λ (s : TextStage × List ℕ). Stands form s (raw ++ b ∷ [])) (goes_is (stage, front) t e) h
move_goes form front raw b t (Add c stage) h e = subst (λ (s : TextStage × List ℕ). Stands form s (raw ++ b ∷ [])) (goes_is (stage, front ++ c ∷ []) t e) h
move_goes form front raw b t Whole h e = absurd cc
move_goes form front raw b t Wrong h e = absurd cc

move_ends : (form : TextForm) (front raw : List ℕ) (b : ℕ) (v : List ℕ) (m : TextMove) → After form front raw b m → text_step_of front m ≡ ends v → IsText form v (raw ++ b ∷ [])
move_ends form front raw b v (Stay stage) h e = absurd cc
move_ends form front raw b v (Add c stage) h e = absurd cc
move_ends form front raw b v Whole h e = subst (λ (w : List ℕ). IsText form w (raw ++ b ∷ [])) (ends_is front v e) h
move_ends form front raw b v Wrong h e = absurd cc

-- ---- every text that was begun can be ended

pub record Bounds (form : TextForm) : Type 0 where
  pub low : form.least ≤ 1
  pub high : 1 ≤ form.greatest

pub bounds_of : (form : TextForm) → is_text_form form ≡ true → Bounds form
bounds_of form ok =
    let p = and_parts (leb form.least 1) (leb 1 form.greatest) ok in
    record { low = leb-true form.least 1 p.0; high = leb-true 1 form.greatest p.1 }

abbrev closing : TextForm → List ℕ
closing form = 34 ∷ end_byte form.behind ∷ []

finish_add : (front raw written rest : List ℕ) (c b : ℕ) → raw ≡ 34 ∷ (spelled front ++ written) → escape c ≡ written ++ b ∷ [] → raw ++ (b ∷ rest) ≡ 34 ∷ (spelled (front ++ c ∷ []) ++ rest)
finish_add front raw written rest c b said is = sym (append_assoc raw (b ∷ []) rest) ∙ ap (λ (t : List ℕ). t ++ rest) (said_push front raw written c b said is)

added_begins : (form : TextForm) → Bounds form → (front raw written : List ℕ) (c b : ℕ) → IsUtf8 (front ++ c ∷ []) → length front < form.greatest → raw ≡ 34 ∷ (spelled front ++ written) → escape c ≡ written ++ b ∷ [] → Begins (IsText form) raw
added_begins form bounds front raw written c b u fits said is =
    (front ++ c ∷ [], b ∷ closing form, (u, omega (arith, length_push front c, bounds.low), omega (arith, length_push front c), finish_add front raw written (closing form) c b said is))

nexts : ℕ → List ℕ
nexts zero = []
nexts (suc n) = 128 ∷ nexts n

nexts_fit : (n : ℕ) → AreNext n (nexts n)
unfolding nexts
nexts_fit zero = tt
nexts_fit (suc n) = (omega arith, omega arith, nexts_fit n)

length-nexts : (n : ℕ) → length (nexts n) ≡ n
unfolding nexts
length-nexts zero = refl
length-nexts (suc n) = ap (λ (k : ℕ). suc k) (length-nexts n)

spelled_next : (n : ℕ) (bs : List ℕ) → AreNext n bs → spelled bs ≡ bs
spelled_next zero [] h = refl
spelled_next zero (b ∷ bs) h = absurd h
spelled_next (suc n) [] h = absurd h
spelled_next (suc n) (b ∷ bs) h = ap (λ (t : List ℕ). t ++ spelled bs) (escape_high b h.0) ∙ ap (λ (t : List ℕ). b ∷ t) (spelled_next n bs h.2)

spelled_tail : (s : Tail) (bs : List ℕ) → 128 ≤ s.low → IsTail s bs → spelled bs ≡ bs
spelled_tail s [] low h = absurd h
spelled_tail s (b ∷ bs) low h = ap (λ (t : List ℕ). t ++ spelled bs) (escape_high b (omega (arith, h.0))) ∙ ap (λ (t : List ℕ). b ∷ t) (spelled_next s.more bs h.2)

inside_begins : (form : TextForm) → Bounds form → (s : Tail) (front raw : List ℕ) → IsInside form s front raw → Begins (IsText form) raw
inside_begins form bounds s front raw h =
    let bs : List ℕ = s.low ∷ nexts s.more in
    let fits : IsTail s bs = (omega arith, h.between, nexts_fit s.more) in
    let long : length (front ++ bs) ≡ length front + suc (length (nexts s.more)) = length-append front bs in
    let text_is : spelled (front ++ bs) ≡ spelled front ++ bs = flat_map-append escape front bs ∙ ap (λ (t : List ℕ). spelled front ++ t) (spelled_tail s bs h.low fits) in (
      front ++ bs,
      bs ++ closing form,
      (
        h.whole bs fits,
        omega (arith, long, bounds.low, length-nexts s.more),
        omega (arith, long, h.fits, length-nexts s.more),
        ap (λ (t : List ℕ). t ++ (bs ++ closing form)) h.said ∙ ap (λ (t : List ℕ). 34 ∷ t) (sym (append_assoc (spelled front) bs (closing form)) ∙ ap (λ (t : List ℕ). t ++ closing form) (sym text_is)),
      ),
    )

open_begins : (form : TextForm) → Bounds form → (front raw : List ℕ) → IsOpen form front raw → Begins (IsText form) raw
open_begins form bounds front raw h =
    elim (cases_lt (length front) 1) [
      | inl lt ↦ added_begins form bounds front raw [] 97 97 (utf8_push front 97 h.utf8 (omega arith)) (omega (arith, bounds.high)) (nothing_more front raw h.said) refl
      | inr ge ↦ (front, closing form, (h.utf8, omega (arith, bounds.low), h.fits, ap (λ (t : List ℕ). t ++ closing form) h.said))
    ]

text_begins : (form : TextForm) → Bounds form → (stage : TextStage) (front raw : List ℕ) → StandsAt form stage front raw → Begins (IsText form) raw
text_begins form bounds Opening front raw h = (97 ∷ [], text_text form (97 ∷ []), (utf8_ascii 97 (omega arith), bounds.low, bounds.high, ap (λ (t : List ℕ). t ++ text_text form (97 ∷ [])) h.1))
text_begins form bounds Open front raw h = open_begins form bounds front raw h
text_begins form bounds (Inside s) front raw h = inside_begins form bounds s front raw h
text_begins form bounds Slash front raw h = added_begins form bounds front raw (92 ∷ []) 34 34 (utf8_push front 34 h.utf8 (omega arith)) h.fits h.said refl
text_begins form bounds (Hex one) front raw h =
    added_begins form bounds front raw (92 ∷ first_digit one ∷ []) (cond one 16 0 + 0) 48 (utf8_push front (cond one 16 0 + 0) h.utf8 (hex_small one 0 (omega arith))) h.fits h.said (hex_said one 0 48 (omega arith) refl)
text_begins form bounds Closed front raw h =
    (front, end_byte form.behind ∷ [], (h.utf8, h.least, h.fits, ap (λ (t : List ℕ). t ++ end_byte form.behind ∷ []) h.said ∙ ap (λ (t : List ℕ). 34 ∷ t) (append_assoc (spelled front) (34 ∷ []) (end_byte form.behind ∷ []))))

-- ---- the characters of a text are read as they are written

at_slash : (form : TextForm) (front x : List ℕ) → length front < form.greatest → run (text_step form) (Open, front) (92 ∷ x) ≡ run (text_step form) (Slash, front) x
at_slash form front x h = rw (lt-ltb (length front) form.greatest h) refl

slash_digit : (form : TextForm) (one : Bool) (front x : List ℕ) → run (text_step form) (Slash, front) (first_digit one ∷ x) ≡ run (text_step form) (Hex one, front) x
slash_digit form true front x = refl
slash_digit form false front x = refl

hex_step : (form : TextForm) (one : Bool) (front : List ℕ) (d b : ℕ) (y : List ℕ) → d < 16 → hex_digit d ≡ b → run (text_step form) (Hex one, front) (b ∷ y) ≡ run (text_step form) (Open, front ++ (cond one 16 0 + d) ∷ []) y
hex_step form one front d b y p q =
    elim (cases_lt d 10) [
      | inl lt ↦ figure (48 + d) (sym (sym (hex_figure d lt) ∙ q)) (omega arith) (omega arith) (omega arith)
      | inr ge ↦ letter (87 + d) (sym (sym (hex_letter d ge) ∙ q)) (omega arith) (omega arith) (omega arith)
    ] where
      figure : (k : ℕ) → b ≡ k → 48 ≤ k → k < 58 → k - 48 ≡ d → run (text_step form) (Hex one, front) (b ∷ y) ≡ run (text_step form) (Open, front ++ (cond one 16 0 + d) ∷ []) y
      figure k is low high back = rw (is, le-ltb k 48 low, lt-ltb k 58 high, back) refl

      letter : (k : ℕ) → b ≡ k → 97 ≤ k → k < 103 → k - 87 ≡ d → run (text_step form) (Hex one, front) (b ∷ y) ≡ run (text_step form) (Open, front ++ (cond one 16 0 + d) ∷ []) y
      letter k is low high back =
          let from48 : 48 ≤ k = omega arith in
          let from58 : 58 ≤ k = omega arith in
          rw (is, le-ltb k 48 from48, le-ltb k 58 from58, le-ltb k 97 low, lt-ltb k 103 high, back) refl

control_through : (form : TextForm) (front : List ℕ) (one : Bool) (c d : ℕ) (y : List ℕ) → length front < form.greatest → d < 16 → cond one 16 0 + d ≡ c → run (text_step form) (Open, front) (escape c ++ y) ≡ run (text_step form) (Open, front ++ c ∷ []) y
control_through form front one c d y h p is =
    ap (λ (t : List ℕ). run (text_step form) (Open, front) (t ++ y)) (ap escape (sym is) ∙ hex_said one d (hex_digit d) p refl)
    ∙ at_slash form front (first_digit one ∷ hex_digit d ∷ y) h ∙ slash_digit form one front (hex_digit d ∷ y) ∙ hex_step form one front d (hex_digit d) y p refl
    ∙ ap (λ (k : ℕ). run (text_step form) (Open, front ++ k ∷ []) y) is

plain_step : (form : TextForm) (front : List ℕ) (c : ℕ) (y : List ℕ) → length front < form.greatest → 32 ≤ c → c < 128 → (c ≡ 34 → ⊥) → (c ≡ 92 → ⊥) → run (text_step form) (Open, front) (c ∷ y) ≡ run (text_step form) (Open, front ++ c ∷ []) y
plain_step form front c y h low high q s = rw (ne_eqb c 34 q, ne_eqb c 92 s, le-ltb c 32 low, lt-ltb c 128 high, lt-ltb (length front) form.greatest h) refl

ascii_through : (form : TextForm) (front : List ℕ) (c : ℕ) (y : List ℕ) → length front < form.greatest → c < 128 → run (text_step form) (Open, front) (escape c ++ y) ≡ run (text_step form) (Open, front ++ c ∷ []) y
ascii_through form front c y h small =
    elim (cases_lt c 32) [
      | inl control ↦ elim (cases_lt c 16) [
        | inl lt ↦ control_through form front false c c y h lt (omega arith)
        | inr ge ↦ control_through form front true c (c - 16) y h (omega arith) (omega arith)
      ]
      | inr printed ↦ elim (cases_eq c 34) [
        | inl is ↦ ap (λ (k : ℕ). run (text_step form) (Open, front) (escape k ++ y)) is ∙ at_slash form front (34 ∷ y) h ∙ ap (λ (k : ℕ). run (text_step form) (Open, front ++ k ∷ []) y) (sym is)
        | inr no_quote ↦ elim (cases_eq c 92) [
          | inl is ↦ ap (λ (k : ℕ). run (text_step form) (Open, front) (escape k ++ y)) is ∙ at_slash form front (92 ∷ y) h ∙ ap (λ (k : ℕ). run (text_step form) (Open, front ++ k ∷ []) y) (sym is)
          | inr no_slash ↦ ap (λ (t : List ℕ). run (text_step form) (Open, front) (t ++ y)) (escape_plain c printed no_quote no_slash) ∙ plain_step form front c y h printed small no_quote no_slash
        ]
      ]
    ]

next_step : (form : TextForm) (s : Tail) (front : List ℕ) (b : ℕ) (x : List ℕ) → s.low ≤ b → b ≤ s.high → run (text_step form) (Inside s, front) (b ∷ x) ≡ run (text_step form) (stage_behind s.more, front ++ b ∷ []) x
next_step form s front b x p q = rw (le-ltb b s.low p, le-ltb s.high b q) refl

tail_through : (form : TextForm) (bs : List ℕ) (low high more : ℕ) (front y : List ℕ) → IsTail (tail low high more) bs → run (text_step form) (Inside (tail low high more), front) (bs ++ y) ≡ run (text_step form) (Open, front ++ bs) y
tail_through form [] low high more front y h = absurd h
tail_through form (b ∷ []) low high zero front y h = next_step form (tail low high 0) front b y h.0 h.1
tail_through form (b ∷ c ∷ bs) low high zero front y h = absurd h.2
tail_through form (b ∷ []) low high (suc n) front y h = absurd h.2
tail_through form (b ∷ c ∷ bs) low high (suc n) front y h =
    next_step form (tail low high (suc n)) front b ((c ∷ bs) ++ y) h.0 h.1 ∙ tail_through form (c ∷ bs) 128 191 n (front ++ b ∷ []) y (h.2.0, h.2.1, h.2.2)
    ∙ ap (λ (t : List ℕ). run (text_step form) (Open, t) y) (append_assoc front (b ∷ []) (c ∷ bs))

lead_step : (form : TextForm) (front : List ℕ) (b : ℕ) (s : Tail) (x : List ℕ) → 128 ≤ b → tail_of b ≡ Some s → length front + 2 + s.more ≤ form.greatest → run (text_step form) (Open, front) (b ∷ x) ≡ run (text_step form) (Inside s, front ++ b ∷ []) x
lead_step form front b s x high is fits =
    let printed : 32 ≤ b = omega arith in
    rw (ne_eqb b 34 (λ e. omega arith), ne_eqb b 92 (λ e. omega arith), le-ltb b 32 printed, le-ltb b 128 high) (on (tail_of b) is)
  where
    on : (o : Option Tail) → o ≡ Some s → after (text_step_of front (lead_move form (length front) b o)) (λ t. run (text_step form) t x) x ≡ run (text_step form) (Inside s, front ++ b ∷ []) x
    on o e = ap (λ (q : Option Tail). after (text_step_of front (lead_move form (length front) b q)) (λ t. run (text_step form) t x) x) e ∙ rw (le-leb (length front + 2 + s.more) form.greatest fits) refl

wide_through : (form : TextForm) (front : List ℕ) (c : ℕ) (y : List ℕ) → IsWide c → length front + length (encode c) ≤ form.greatest → run (text_step form) (Open, front) (spelled (encode c) ++ y) ≡ run (text_step form) (Open, front ++ encode c) y
wide_through form front c y w fits =
    let lead = lead_of w.first w.tail w.lead in
    let bytes : List ℕ = w.first ∷ w.others in
    let spelled_is : spelled bytes ≡ bytes = ap (λ (t : List ℕ). t ++ spelled w.others) (escape_high w.first lead.first) ∙ ap (λ (t : List ℕ). w.first ∷ t) (spelled_tail w.tail w.others lead.low w.fits) in
    ap (λ (t : List ℕ). run (text_step form) (Open, front) (t ++ y)) (ap spelled w.bytes ∙ spelled_is)
    ∙ lead_step form front w.first w.tail (w.others ++ y) lead.first w.lead (omega (arith, w.length_is, ap length w.bytes))
    ∙ tail_through form w.others w.tail.low w.tail.high w.tail.more (front ++ w.first ∷ []) y w.fits
    ∙ ap (λ (t : List ℕ). run (text_step form) (Open, t) y) (append_assoc front (w.first ∷ []) w.others ∙ ap (λ (t : List ℕ). front ++ t) (sym w.bytes))

char_through : (form : TextForm) (front : List ℕ) (c : ℕ) (y : List ℕ) → scalar c ≡ true → length front + length (encode c) ≤ form.greatest → run (text_step form) (Open, front) (spelled (encode c) ++ y) ≡ run (text_step form) (Open, front ++ encode c) y
char_through form front c y s fits =
    elim (cases_lt c 128) [
      | inl lt ↦
          let one = encode_ascii c lt in
          ap (λ (t : List ℕ). run (text_step form) (Open, front) (spelled t ++ y)) one ∙ ap (λ (t : List ℕ). run (text_step form) (Open, front) (t ++ y)) (append-nil (escape c))
          ∙ ascii_through form front c y (omega (arith, ap length one)) lt ∙ ap (λ (t : List ℕ). run (text_step form) (Open, front ++ t) y) (sym one)
      | inr ge ↦ wide_through form front c y (wide c s ge) fits
    ]

chars_through : (form : TextForm) (cs front y : List ℕ) → scalars cs ≡ true → length front + length (encodes cs) ≤ form.greatest → run (text_step form) (Open, front) (spelled (encodes cs) ++ y) ≡ run (text_step form) (Open, front ++ encodes cs) y
chars_through form [] front y s fits = ap (λ (t : List ℕ). run (text_step form) (Open, t) y) (sym (append-nil front))
chars_through form (c ∷ cs) front y s fits =
    let p = and_parts (scalar c) (scalars cs) s in
    let long = length-append (encode c) (encodes cs) in
    ap (λ (t : List ℕ). run (text_step form) (Open, front) (t ++ y)) (flat_map-append escape (encode c) (encodes cs)) ∙ ap (run (text_step form) (Open, front)) (append_assoc (spelled (encode c)) (spelled (encodes cs)) y)
    ∙ char_through form front c (spelled (encodes cs) ++ y) p.0 (omega (arith, long))
    ∙ chars_through form cs (front ++ encode c) y p.1 (omega (arith, long, length-append front (encode c)))
    ∙ ap (λ (t : List ℕ). run (text_step form) (Open, t) y) (append_assoc front (encode c) (encodes cs))

close_step : (form : TextForm) (front rest : List ℕ) → form.least ≤ length front → run (text_step form) (Open, front) (34 ∷ end_byte form.behind ∷ rest) ≡ Ok (front, rest)
close_step form front rest h = rw (le-leb form.least (length front) h, eq-eqb (end_byte form.behind) (end_byte form.behind) refl) refl

text_again : (form : TextForm) (v text rest : List ℕ) → IsText form v text → run (text_step form) (Opening, []) (text ++ rest) ≡ Ok (v, rest)
text_again form v text rest h =
    let cs : List ℕ = h.0.0 in
    let v_is : encodes cs ≡ v = h.0.1.1 in
    let z : List ℕ = 34 ∷ end_byte form.behind ∷ rest in
    let regroup : text ++ rest ≡ 34 ∷ (spelled (encodes cs) ++ z) = ap (λ (t : List ℕ). t ++ rest) h.3 ∙ ap (λ (t : List ℕ). 34 ∷ t) (append_assoc (spelled v) (34 ∷ end_byte form.behind ∷ []) rest ∙ ap (λ (t : List ℕ). spelled t ++ z) (sym v_is)) in
    ap (run (text_step form) (Opening, [])) regroup
    ∙ chars_through form cs [] z h.0.1.0 (omega (arith, h.2, ap length v_is))
    ∙ ap (λ (t : List ℕ). run (text_step form) (Open, t) z) v_is
    ∙ close_step form v rest h.1

-- the texts of a form are read as they are spelled
pub text_reads : (form : TextForm) → is_text_form form ≡ true → Reads (IsText form) (text_at form)
unfolding text_at
text_reads form ok =
    let bounds = bounds_of form ok in
    machine_reads (IsText form) (text_step form) (Opening, []) (Stands form) (record {
      starts = (refl, refl);
      goes = λ s front b t h e. move_goes form s.1 front b t (text_move form s.0 (length s.1) b) (moves form s.0 s.1 front b h) e;
      ends = λ s front b v h e. move_ends form s.1 front b v (text_move form s.0 (length s.1) b) (moves form s.0 s.1 front b h) e;
      begins = λ s front h. text_begins form bounds s.0 s.1 front h;
      again = text_again form;
    })
