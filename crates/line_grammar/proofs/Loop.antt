-- Reading the words of a list one after the other, as a loop does.
use Rattle.std.proofs.Common.{◌≡◌, ℕ, suc, ◌≤◌, List, [], ◌∷◌, ◌++◌, Result, Ok, Err, refl, sym, ap, ◌∙◌, append_assoc, arith}
use Rattle.std.proofs.lemmas.List.{append-nil}
use Rattle.line_grammar.specs.declared.faults.ReadError.{ReadError}
use Rattle.line_grammar.specs.declared.faults.ReadError.TheVariants.{Memory, Bad}
use Rattle.line_grammar.specs.declared.numbers.NumberForm.{NumberForm}
use Rattle.line_grammar.specs.declared.texts.TextForm.{TextForm}
use Rattle.line_grammar.specs.Reading.{◌>>=◌, Fails}
use Rattle.line_grammar.specs.Numbers.{number_at}
use Rattle.line_grammar.specs.Texts.{text_at}
use Rattle.line_grammar.specs.Lists.{text_before, number_before, texts_at, numbers_at}

-- what was read before, and what is still read
abbrev pub with_front : {X : Type 0} → List X → Result (List X × List ℕ) ℕ → Result (List X × List ℕ) ℕ
with_front {X} front read = read >>= λ x. Ok (front ++ x.0, x.1)

abbrev step : {X : Type 0} → Result (X × List ℕ) ℕ → (List ℕ → Result (List X × List ℕ) ℕ) → Result (List X × List ℕ) ℕ
step first others = first >>= λ x. (others x.1 >>= λ y. Ok (x.0 ∷ y.0, y.1))

regroup : {X : Type 0} (front : List X) (x : X) (read : Result (List X × List ℕ) ℕ) → with_front front (read >>= λ y. Ok (x ∷ y.0, y.1)) ≡ with_front (front ++ x ∷ []) read
regroup {X} front x (Ok y) = ap (λ (xs : List X). Ok (xs, y.1)) (simp append_assoc)
regroup front x (Err f) = refl

-- one more word was read
went_on : {X : Type 0} (front : List X) (first : Result (X × List ℕ) ℕ) (others : List ℕ → Result (List X × List ℕ) ℕ) (x : X) (after : List ℕ) (total : Result (List X × List ℕ) ℕ) → first ≡ Ok (x, after) → with_front front (step first others) ≡ total → with_front (front ++ x ∷ []) (others after) ≡ total
went_on {X} front first others x after total e so_far =
    sym (regroup front x (others after)) ∙ ap (λ (r : Result (X × List ℕ) ℕ). with_front front (step r others)) (sym e) ∙ so_far

-- a word that could not be read
broke : {X : Type 0} (e : ReadError) (front : List X) (first : Result (X × List ℕ) ℕ) (others : List ℕ → Result (List X × List ℕ) ℕ) (total : Result (List X × List ℕ) ℕ) → Fails e first → with_front front (step first others) ≡ total → Fails e total
broke Memory front first others total h so_far = tt
broke {X} (Bad left) front first others total h so_far = sym so_far ∙ ap (λ (r : Result (X × List ℕ) ℕ). with_front front (step r others)) h

pub is_done : {X : Type 0} (front : List X) (bytes : List ℕ) (total : Result (List X × List ℕ) ℕ) → with_front front (Ok ([], bytes)) ≡ total → total ≡ Ok (front, bytes)
is_done {X} front bytes total so_far = sym so_far ∙ ap (λ (xs : List X). Ok (xs, bytes)) (append-nil front)

pub texts_go_on : (front : List (List ℕ)) (form : TextForm) (n k : ℕ) (bytes x after : List ℕ) (total : Result (List (List ℕ) × List ℕ) ℕ) → n ≡ suc k → text_at (text_before k form) bytes ≡ Ok (x, after) → with_front front (texts_at form n bytes) ≡ total → with_front (front ++ x ∷ []) (texts_at form k after) ≡ total
unfolding texts_at
texts_go_on front form n k bytes x after total is e so_far =
    went_on front (text_at (text_before k form) bytes) (texts_at form k) x after total e (ap (λ (j : ℕ). with_front front (texts_at form j bytes)) (sym is) ∙ so_far)

pub texts_break : (e : ReadError) (front : List (List ℕ)) (form : TextForm) (n k : ℕ) (bytes : List ℕ) (total : Result (List (List ℕ) × List ℕ) ℕ) → n ≡ suc k → Fails e (text_at (text_before k form) bytes) → with_front front (texts_at form n bytes) ≡ total → Fails e total
unfolding texts_at
texts_break e front form n k bytes total is h so_far =
    broke e front (text_at (text_before k form) bytes) (texts_at form k) total h (ap (λ (j : ℕ). with_front front (texts_at form j bytes)) (sym is) ∙ so_far)

pub texts_done : (front : List (List ℕ)) (form : TextForm) (n : ℕ) (bytes : List ℕ) (total : Result (List (List ℕ) × List ℕ) ℕ) → n ≤ 0 → with_front front (texts_at form n bytes) ≡ total → total ≡ Ok (front, bytes)
unfolding texts_at
texts_done front form n bytes total le so_far = let k : 0 ≡ n = omega arith in is_done front bytes total (ap (λ (j : ℕ). with_front front (texts_at form j bytes)) k ∙ so_far)

pub numbers_go_on : (front : List ℕ) (form : NumberForm) (n k : ℕ) (bytes : List ℕ) (x : ℕ) (after : List ℕ) (total : Result (List ℕ × List ℕ) ℕ) → n ≡ suc k → number_at (number_before k form) bytes ≡ Ok (x, after) → with_front front (numbers_at form n bytes) ≡ total → with_front (front ++ x ∷ []) (numbers_at form k after) ≡ total
unfolding numbers_at
numbers_go_on front form n k bytes x after total is e so_far =
    went_on front (number_at (number_before k form) bytes) (numbers_at form k) x after total e (ap (λ (j : ℕ). with_front front (numbers_at form j bytes)) (sym is) ∙ so_far)

pub numbers_break : (e : ReadError) (front : List ℕ) (form : NumberForm) (n k : ℕ) (bytes : List ℕ) (total : Result (List ℕ × List ℕ) ℕ) → n ≡ suc k → Fails e (number_at (number_before k form) bytes) → with_front front (numbers_at form n bytes) ≡ total → Fails e total
unfolding numbers_at
numbers_break e front form n k bytes total is h so_far =
    broke e front (number_at (number_before k form) bytes) (numbers_at form k) total h (ap (λ (j : ℕ). with_front front (numbers_at form j bytes)) (sym is) ∙ so_far)

pub numbers_done : (front : List ℕ) (form : NumberForm) (n : ℕ) (bytes : List ℕ) (total : Result (List ℕ × List ℕ) ℕ) → n ≤ 0 → with_front front (numbers_at form n bytes) ≡ total → total ≡ Ok (front, bytes)
unfolding numbers_at
numbers_done front form n bytes total le so_far = let k : 0 ≡ n = omega arith in is_done front bytes total (ap (λ (j : ℕ). with_front front (numbers_at form j bytes)) k ∙ so_far)
