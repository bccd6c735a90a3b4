-- What loops keep.
use Rattle.std.proofs.Common.{◌≡◌, ℕ, suc, ◌+◌, ◌<◌, min, List, ◌∷◌, length, get_or, drop, map, Bor, Result, sym, ap, subst, ◌∙◌, arith}
use Rattle.std.proofs.lemmas.List.{drop_more, get_or-map, length-map}
use Rattle.line_grammar.specs.Choices.{word_at, words_from, word_or}
use Rattle.line_grammar.specs.Tables.{row_from}

abbrev pub texts_of : List (Bor (List ℕ)) → List (List ℕ)
texts_of words = map (λ w. w.now) words

-- one word further in the list of words
pub choice_step : (words : List (Bor (List ℕ))) (i least : ℕ) (d : Bor (List ℕ)) (bytes word : List ℕ) (whole : Result (ℕ × List ℕ) ℕ) (at : Result (List ℕ) ℕ) → i < length words → word ≡ (get_or words i d).now → word_at word bytes ≡ at
    → words_from i least (drop i (texts_of words)) bytes ≡ whole → word_or at i (λ left. words_from (i + 1) (min least left) (drop (i + 1) (texts_of words)) bytes) ≡ whole
choice_step words i least d bytes word whole at lt word_is at_is so_far =
    let head : get_or (texts_of words) i d.now ≡ word = get_or-map (λ (w : Bor (List ℕ)). w.now) words i d d.now lt ∙ sym word_is in
    let long : i < length (texts_of words) = omega (arith, length-map words (λ (w : Bor (List ℕ)). w.now)) in
    let parts : drop i (texts_of words) ≡ word ∷ drop (i + 1) (texts_of words) = drop_more (texts_of words) i d.now long ∙ ap (λ (w : List ℕ). w ∷ drop (i + 1) (texts_of words)) head in
    let next : suc i ≡ i + 1 = omega arith in
    let one : word_or at (i) (λ left. words_from (suc i) (min least left) (drop (i + 1) (texts_of words)) bytes) ≡ whole = ap (λ (r : Result (List ℕ) ℕ). word_or r i (λ left. words_from (suc i) (min least left) (drop (i + 1) (texts_of words)) bytes)) (sym at_is) ∙ ap (λ (ws : List (List ℕ)). words_from i least ws bytes) (sym parts) ∙ so_far in
    subst (λ (k : ℕ). word_or at i (λ left. words_from k (min least left) (drop (i + 1) (texts_of words)) bytes) ≡ whole) next one

abbrev pub table_of : {V : Type 0} → List (Bor (List ℕ) × V) → List (List ℕ × V)
table_of rows = map (λ row. (row.0.now, row.1)) rows

-- one row further in the table
pub row_step : {V : Type 0} (rows : List (Bor (List ℕ) × V)) (i least : ℕ) (row : Bor (List ℕ) × V) (bytes word : List ℕ) (whole : Result (V × List ℕ) ℕ) (at : Result (List ℕ) ℕ) → i < length rows → get_or rows i row ≡ row → word ≡ row.0.now → word_at word bytes ≡ at
    → row_from least (drop i (table_of rows)) bytes ≡ whole → word_or at row.1 (λ left. row_from (min least left) (drop (i + 1) (table_of rows)) bytes) ≡ whole
row_step {V} rows i least row bytes word whole at lt row_is word_is at_is so_far =
    let seen : Bor (List ℕ) × V → List ℕ × V = λ r. (r.0.now, r.1) in
    let long : i < length (table_of rows) = omega (arith, lt, length-map rows seen) in
    let head : get_or (table_of rows) i (seen row) ≡ (word, row.1) = get_or-map seen rows i row (seen row) lt ∙ ap seen row_is ∙ ap (λ (w : List ℕ). (w, row.1)) (sym word_is) in
    let parts : drop i (table_of rows) ≡ (word, row.1) ∷ drop (i + 1) (table_of rows) = drop_more (table_of rows) i (seen row) long ∙ ap (λ r. r ∷ drop (i + 1) (table_of rows)) head in
    ap (λ (r : Result (List ℕ) ℕ). word_or r row.1 (λ left. row_from (min least left) (drop (i + 1) (table_of rows)) bytes)) (sym at_is) ∙ ap (λ rs. row_from least rs bytes) (sym parts) ∙ so_far
