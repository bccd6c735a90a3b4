-- Fixed words are read and said.
use Rattle.std.proofs.Common.{◌≡◌, ◌⊎◌, ℕ, zero, suc, ◌+◌, ◌≤◌, min, Bool, true, false, cond, eqb, List, [], ◌∷◌, ◌++◌, length, Result, Ok, Err, refl, sym, ap, subst, ◌∙◌, append_assoc, inl, inr, arith}
use Rattle.std.proofs.lemmas.Bool.{cases_lt, eqb-true, eqb-false, eq-eqb, and_parts, false≢true}
use Rattle.line_grammar.specs.Languages.{Begins, Stops, Reads}
use Rattle.line_grammar.specs.Choices.{IsWord, word_at, words_from, word_or, words_at, apart, all_apart, are_apart}
use Rattle.line_grammar.proofs.Algebra.{good, ok_is, err_is, ok≢err}
use Rattle.line_grammar.proofs.Fronts.{cons_parts}

-- ---- one word

word_step : (t : Bool) (a b : ℕ) (word bytes rest : List ℕ) → eqb a b ≡ t → (word_at word bytes ≡ Ok rest → bytes ≡ word ++ rest) → cond t (word_at word bytes) (Err (suc (length bytes))) ≡ Ok rest → b ∷ bytes ≡ (a ∷ word) ++ rest
word_step true a b word bytes rest t on e = ap (λ (k : ℕ). k ∷ bytes) (sym (eqb-true a b t)) ∙ ap (λ (x : List ℕ). a ∷ x) (on e)
word_step false a b word bytes rest t on e = absurd (ok≢err rest (suc (length bytes)) (Err (suc (length bytes))) e refl)

word_found : (word bytes rest : List ℕ) → word_at word bytes ≡ Ok rest → bytes ≡ word ++ rest
word_found [] bytes rest e = ok_is bytes rest e
word_found (a ∷ word) [] rest e = absurd (ok≢err rest 0 (Err 0) e refl)
word_found (a ∷ word) (b ∷ bytes) rest e = word_step (eqb a b) a b word bytes rest refl (word_found word bytes rest) e

word_again : (word rest : List ℕ) → word_at word (word ++ rest) ≡ Ok rest
word_again [] rest = refl
word_again (a ∷ word) rest = rw (eq-eqb a a refl) (word_again word rest)

apart_step : (t : Bool) (word other rest : List ℕ) → (apart word other ≡ true → (left : ℕ) × (word_at word (other ++ rest) ≡ Err left)) → cond t (apart word other) true ≡ true
    → (left : ℕ) × (cond t (word_at word (other ++ rest)) (Err (suc (length (other ++ rest)))) ≡ Err left)
apart_step true word other rest on e = on e
apart_step false word other rest on e = (suc (length (other ++ rest)), refl)

word_apart : (word other rest : List ℕ) → apart word other ≡ true → (left : ℕ) × (word_at word (other ++ rest) ≡ Err left)
word_apart [] other rest e = absurd (false≢true e)
word_apart (a ∷ word) [] rest e = absurd (false≢true e)
word_apart (a ∷ word) (b ∷ other) rest e = apart_step (eqb a b) word other rest (word_apart word other rest) e

-- a common front of the word and the bytes leaves at least this many bytes
abbrev NoLonger : List ℕ → List ℕ → ℕ → Type 0
NoLonger word bytes left = (front back more : List ℕ) → bytes ≡ front ++ back → word ≡ front ++ more → left ≤ length back

-- a common front of the word and the bytes leaves just this many bytes
abbrev Reaches : List ℕ → List ℕ → ℕ → Type 0
Reaches word bytes left = (front : List ℕ) × (back : List ℕ) × (more : List ℕ) × (bytes ≡ front ++ back) × (word ≡ front ++ more) × (length back ≡ left)

limit_step : (t : Bool) (a b left : ℕ) (word bytes : List ℕ) → eqb a b ≡ t → (word_at word bytes ≡ Err left → NoLonger word bytes left) → cond t (word_at word bytes) (Err (suc (length bytes))) ≡ Err left → NoLonger (a ∷ word) (b ∷ bytes) left
limit_step true a b left word bytes t on e [] back more bytes_is word_is =
    let short = on e [] bytes word refl refl in
    omega (arith, ap length bytes_is)
limit_step true a b left word bytes t on e (c ∷ front) back more bytes_is word_is =
    on e front back more (cons_parts b c bytes (front ++ back) bytes_is).1 (cons_parts a c word (front ++ more) word_is).1
limit_step false a b left word bytes t on e [] back more bytes_is word_is = omega (arith, ap length bytes_is, err_is (List ℕ) (suc (length bytes)) left e)
limit_step false a b left word bytes t on e (c ∷ front) back more bytes_is word_is =
    absurd (eqb-false a b t ((cons_parts a c word (front ++ more) word_is).0 ∙ sym (cons_parts b c bytes (front ++ back) bytes_is).0))

word_limit : (word bytes : List ℕ) (left : ℕ) → word_at word bytes ≡ Err left → NoLonger word bytes left
word_limit [] bytes left e = absurd (ok≢err bytes left (Ok bytes) refl e)
word_limit (a ∷ word) [] left e = λ front back more bytes_is word_is. omega (arith, err_is (List ℕ) 0 left e)
word_limit (a ∷ word) (b ∷ bytes) left e = limit_step (eqb a b) a b left word bytes refl (word_limit word bytes left) e

reach_step : (t : Bool) (a b left : ℕ) (word bytes : List ℕ) → eqb a b ≡ t → (word_at word bytes ≡ Err left → Reaches word bytes left) → cond t (word_at word bytes) (Err (suc (length bytes))) ≡ Err left → Reaches (a ∷ word) (b ∷ bytes) left
reach_step true a b left word bytes t on e =
    let r = on e in
    (a ∷ r.0, r.1, r.2, ap (λ (k : ℕ). k ∷ bytes) (sym (eqb-true a b t)) ∙ ap (λ (x : List ℕ). a ∷ x) r.3, ap (λ (x : List ℕ). a ∷ x) r.4, r.5)
reach_step false a b left word bytes t on e = ([], b ∷ bytes, a ∷ word, refl, refl, err_is (List ℕ) (suc (length bytes)) left e)

word_reach : (word bytes : List ℕ) (left : ℕ) → word_at word bytes ≡ Err left → Reaches word bytes left
word_reach [] bytes left e = absurd (ok≢err bytes left (Ok bytes) refl e)
word_reach (a ∷ word) [] left e = ([], [], a ∷ word, refl, refl, err_is (List ℕ) 0 left e)
word_reach (a ∷ word) (b ∷ bytes) left e = reach_step (eqb a b) a b left word bytes refl (word_reach word bytes left) e

-- ---- a list of words

abbrev Found : List (List ℕ) → ℕ → ℕ → List ℕ → List ℕ → Type 0
Found words i k bytes rest = (j : ℕ) × (text : List ℕ) × (k ≡ i + j) × IsWord words j text × (bytes ≡ text ++ rest)

words_found_step : (word : List ℕ) (words : List (List ℕ)) (i least : ℕ) (bytes : List ℕ) (k : ℕ) (rest : List ℕ) (at : Result (List ℕ) ℕ) → word_at word bytes ≡ at
    → ((left : ℕ) → words_from (suc i) (min least left) words bytes ≡ Ok (k, rest) → Found words (suc i) k bytes rest)
    → word_or at i (λ left. words_from (suc i) (min least left) words bytes) ≡ Ok (k, rest) → Found (word ∷ words) i k bytes rest
words_found_step word words i least bytes k rest (Ok behind) is on e =
    let p = ok_is (i, behind) (k, rest) e in
    (0, word, omega (arith, ap (λ (q : ℕ × List ℕ). q.0) p), refl, word_found word bytes behind is ∙ ap (λ (q : ℕ × List ℕ). word ++ q.1) p)
words_found_step word words i least bytes k rest (Err left) is on e =
    let f = on left e in
    (suc f.0, f.1, omega (arith, f.2), f.3, f.4)

words_found : (words : List (List ℕ)) (i least : ℕ) (bytes : List ℕ) (k : ℕ) (rest : List ℕ) → words_from i least words bytes ≡ Ok (k, rest) → Found words i k bytes rest
words_found [] i least bytes k rest e = absurd (ok≢err (k, rest) least (Err least) e refl)
words_found (word ∷ words) i least bytes k rest e = words_found_step word words i least bytes k rest (word_at word bytes) refl (λ left d. words_found words (suc i) (min least left) bytes k rest d) e

words_again : (words : List (List ℕ)) (i least j : ℕ) (text rest : List ℕ) → are_apart words ≡ true → IsWord words j text → words_from i least words (text ++ rest) ≡ Ok (i + j, rest)
words_again [] i least j text rest ok h = absurd h
words_again (word ∷ words) i least zero text rest ok h =
    let at : word_at word (text ++ rest) ≡ Ok rest = ap (λ (x : List ℕ). word_at word (x ++ rest)) h ∙ word_again word rest in
    let k : i ≡ i + 0 = omega arith in
    ap (λ (r : Result (List ℕ) ℕ). word_or r i (λ left. words_from (suc i) (min least left) words (text ++ rest))) at ∙ ap (λ (n : ℕ). good (n, rest)) k
words_again (word ∷ words) i least (suc j) text rest ok h =
    let p = and_parts (all_apart word words) (are_apart words) ok in
    let at = word_apart word text rest (apart_from_all word words j text p.0 h) in
    let k : suc i + j ≡ i + suc j = omega arith in
    ap (λ (r : Result (List ℕ) ℕ). word_or r i (λ left. words_from (suc i) (min least left) words (text ++ rest))) at.1 ∙ words_again words (suc i) (min least at.0) j text rest p.1 h ∙ ap (λ (n : ℕ). good (n, rest)) k
  where
    apart_from_all : (w : List ℕ) (ws : List (List ℕ)) (m : ℕ) (t : List ℕ) → all_apart w ws ≡ true → IsWord ws m t → apart w t ≡ true
    apart_from_all w [] m t e g = absurd g
    apart_from_all w (v ∷ vs) zero t e g = ap (apart w) g ∙ (and_parts (apart w v) (all_apart w vs) e).0
    apart_from_all w (v ∷ vs) (suc m) t e g = apart_from_all w vs m t (and_parts (apart w v) (all_apart w vs) e).1 g

-- every word of the list keeps to the limit
abbrev Keep : List (List ℕ) → List ℕ → ℕ → Type 0
Keep words bytes left = (j : ℕ) (text : List ℕ) → IsWord words j text → NoLonger text bytes left

-- the limit is the one before, or some word reaches it
abbrev Meets : List (List ℕ) → List ℕ → ℕ → ℕ → Type 0
Meets words bytes least left = (left ≡ least) ⊎ ((j : ℕ) × (text : List ℕ) × IsWord words j text × Reaches text bytes left)

abbrev Limit : List (List ℕ) → List ℕ → ℕ → ℕ → Type 0
Limit words bytes least left = (left ≤ least) × Keep words bytes left × Meets words bytes least left

closer : (text bytes : List ℕ) (far left : ℕ) → left ≤ far → NoLonger text bytes far → NoLonger text bytes left
closer text bytes far left le h front back more p q = let k = h front back more p q in omega arith

meets_on : (word : List ℕ) (words : List (List ℕ)) (bytes : List ℕ) (least own left : ℕ) → Reaches word bytes own → Meets words bytes (min least own) left → Meets (word ∷ words) bytes least left
meets_on word words bytes least own left r (inl e) =
    elim (cases_lt own least) [
      | inl lt ↦ let k : own ≡ left = omega arith in inr (0, word, refl, subst (Reaches word bytes) k r)
      | inr ge ↦ inl (omega arith)
    ]
meets_on word words bytes least own left r (inr m) = inr (suc m.0, m.1, m.2, m.3)

keep_on : (word : List ℕ) (words : List (List ℕ)) (bytes : List ℕ) (left : ℕ) → NoLonger word bytes left → Keep words bytes left → Keep (word ∷ words) bytes left
keep_on word words bytes left own h zero text g = subst (λ (t : List ℕ). NoLonger t bytes left) (sym g) own
keep_on word words bytes left own h (suc j) text g = h j text g

words_limit_step : (word : List ℕ) (words : List (List ℕ)) (i least : ℕ) (bytes : List ℕ) (left : ℕ) (at : Result (List ℕ) ℕ) → word_at word bytes ≡ at
    → ((own : ℕ) → words_from (suc i) (min least own) words bytes ≡ Err left → Limit words bytes (min least own) left)
    → word_or at i (λ own. words_from (suc i) (min least own) words bytes) ≡ Err left → Limit (word ∷ words) bytes least left
words_limit_step word words i least bytes left (Ok behind) is on e = absurd (ok≢err (i, behind) left (Ok (i, behind)) refl e)
words_limit_step word words i least bytes left (Err own) is on e =
    let h = on own e in
    (omega (arith, h.0), keep_on word words bytes left (closer word bytes own left (omega (arith, h.0)) (word_limit word bytes own is)) h.1, meets_on word words bytes least own left (word_reach word bytes own is) h.2)

words_limit : (words : List (List ℕ)) (i least : ℕ) (bytes : List ℕ) (left : ℕ) → words_from i least words bytes ≡ Err left → Limit words bytes least left
words_limit [] i least bytes left e = let k = err_is (ℕ × List ℕ) least left e in (omega arith, λ j text g. absurd g, inl (sym k))
words_limit (word ∷ words) i least bytes left e = words_limit_step word words i least bytes left (word_at word bytes) refl (λ own d. words_limit words (suc i) (min least own) bytes left d) e

-- where no word goes on
words_stop : (word : List ℕ) (words : List (List ℕ)) (bytes : List ℕ) (left : ℕ) → words_from 0 (length bytes) (word ∷ words) bytes ≡ Err left → Stops (IsWord (word ∷ words)) bytes left
words_stop word words bytes left e =
    let h = words_limit (word ∷ words) 0 (length bytes) bytes left e in
    elim h.2 [
      | inl k ↦ stop [] bytes refl (sym k) (0, word, refl) h.1
      | inr m ↦ stop m.3.0 m.3.1 m.3.3 m.3.5 (m.0, m.3.2, subst (IsWord (word ∷ words) m.0) m.3.4 m.2) h.1
    ] where
      stop : (front back : List ℕ) → bytes ≡ front ++ back → length back ≡ left → Begins (IsWord (word ∷ words)) front → Keep (word ∷ words) bytes left → Stops (IsWord (word ∷ words)) bytes left
      stop front back parts left_is begins keep = record {
        front = front;
        back = back;
        parts = parts;
        left_is = left_is;
        begins = begins;
        longest = λ b more back_is begun.
            let short = keep begun.0 ((front ++ b ∷ []) ++ begun.1) begun.2 (front ++ b ∷ []) more begun.1 (parts ∙ ap (λ (x : List ℕ). front ++ x) back_is ∙ sym (append_assoc front (b ∷ []) more)) refl in
            omega (arith, ap length back_is);
      }

-- the words of a list, none of which begins another, are read as they are spelled
pub words_reads : (word : List ℕ) (words : List (List ℕ)) → are_apart (word ∷ words) ≡ true → Reads (IsWord (word ∷ words)) (words_at (word ∷ words))
unfolding words_at
words_reads word words ok = record {
  found = λ bytes j rest e. let f = words_found (word ∷ words) 0 (length bytes) bytes j rest e in (f.1, subst (λ (k : ℕ). IsWord (word ∷ words) k f.1) (omega (arith, f.2)) f.3, f.4);
  again = λ j text rest h. words_again (word ∷ words) 0 (length (text ++ rest)) j text rest ok h ∙ ap (λ (n : ℕ). good (n, rest)) (omega arith);
  stops = λ bytes left e. words_stop word words bytes left e;
  some = (0, word, refl);
}
