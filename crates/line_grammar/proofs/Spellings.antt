-- Each word has one spelling, which is what its writer writes.
use Rattle.std.proofs.Common.{◌≡◌, true, ℕ, zero, suc, ℤ, ◌≤◌, List, [], ◌∷◌, ◌++◌, length, Option, Some, None, Ok, refl, sym, ap, subst, ◌∙◌, append_assoc, inl, inr, arith}
use Rattle.std.specs.Prelude.{decimal, IfSome}
use Rattle.std.specs.List.{flat_map, AllByRecursion}
use Rattle.std.proofs.lemmas.List.{append-nil}
use Rattle.line_grammar.specs.declared.ends.End.{End}
use Rattle.line_grammar.specs.declared.ends.End.TheVariants.{Space, Line}
use Rattle.line_grammar.specs.declared.numbers.NumberForm.{NumberForm}
use Rattle.line_grammar.specs.declared.texts.TextForm.{TextForm}
use Rattle.line_grammar.specs.Ends.{end_byte}
use Rattle.line_grammar.specs.Numbers.{end_of, number_text, IsNumber, is_number_form}
use Rattle.line_grammar.specs.Texts.{spelled, text_text, IsText, is_text_form}
use Rattle.line_grammar.specs.Choices.{IsWord}
use Rattle.line_grammar.specs.Dashes.{some_text, no_text, IsOptional, number_form, plus_form, minus_form, plus, minus, IsCode}
use Rattle.line_grammar.specs.Lists.{end_before, text_before, number_before, count_form, IsTexts, IsNumbers, IsTextList, IsNumberList, text_list_at, ended_numbers_at}
use Rattle.line_grammar.specs.Writing.{quoted, optional_text, spaced_text, spaced_number, counted_texts, counted_numbers}
use Rattle.line_grammar.specs.Laws.{IsOneWay, WordsHaveOneSpelling, IsNumberOf, IsTextOf, WordsAreReadAgain}
use Rattle.line_grammar.proofs.Decimals.{number_reads}
use Rattle.line_grammar.proofs.Quoted.{text_reads}
use Rattle.line_grammar.proofs.GrammarLaws.{text_list_reads, number_list_reads, ended_numbers_reads}

-- ---- single words

number_one : (form : NumberForm) → IsOneWay (IsNumber form)
number_one form n text other h k = h.2 ∙ sym k.2

text_one : (form : TextForm) → IsOneWay (IsText form)
text_one form v text other h k = h.3 ∙ sym k.3

word_one : (words : List (List ℕ)) → IsOneWay (IsWord words)
word_one [] i text other h k = absurd h
word_one (word ∷ words) zero text other h k = h ∙ sym k
word_one (word ∷ words) (suc i) text other h k = word_one words i text other h k

some_is : (v w : List ℕ) → some_text v ≡ some_text w → v ≡ w
some_is v w e = cc

not_none : (v : List ℕ) (i : ℕ) (o : Option (List ℕ)) → o ≡ some_text v → o ≡ no_text i → ⊥
not_none v i o e d = cc

optional_one : (form : TextForm) → IsOneWay (IsOptional form)
optional_one form o text other (inl h) (inl k) = h.1.3 ∙ ap (text_text form) (some_is h.0 k.0 (sym h.2 ∙ k.2)) ∙ sym k.1.3
optional_one form o text other (inl h) (inr k) = absurd (not_none h.0 k.0 o h.2 k.4)
optional_one form o text other (inr h) (inl k) = absurd (not_none k.0 h.0 o k.2 h.4)
optional_one form o text other (inr h) (inr k) = h.3 ∙ ap (λ (t : List ℕ). 45 ∷ t) (dash (end_byte form.behind ∷ []) h.0 k.0 h.1 k.1 h.2 k.2) ∙ sym k.3 where
  dash : (w : List ℕ) (i j : ℕ) (s t : List ℕ) → IsWord (w ∷ []) i s → IsWord (w ∷ []) j t → s ≡ t
  dash w zero zero s t a b = a ∙ sym b
  dash w zero (suc j) s t a b = absurd b
  dash w (suc i) j s t a b = absurd a

plus_is : (m n : ℕ) → plus m ≡ plus n → m ≡ n
plus_is m n e = cc

minus_is : (m n : ℕ) → 1 ≤ m → 1 ≤ n → minus m ≡ minus n → m ≡ n
minus_is zero n p q e = absurd (omega arith)
minus_is (suc m) zero p q e = absurd (omega arith)
minus_is (suc m) (suc n) p q e = cc

plus≢minus : (m n : ℕ) (z : ℤ) → 1 ≤ n → z ≡ plus m → z ≡ minus n → ⊥
plus≢minus m zero z p e d = omega arith
plus≢minus m (suc n) z p e d = cc

code_one : (end : End) → IsOneWay (IsCode end)
code_one end z text other (inl h) (inl k) = h.1.2 ∙ ap (number_text (plus_form end)) (plus_is h.0 k.0 (sym h.2 ∙ k.2)) ∙ sym k.1.2
code_one end z text other (inl h) (inr k) = absurd (plus≢minus h.0 k.0 z k.2.0 h.2 k.4)
code_one end z text other (inr h) (inl k) = absurd (plus≢minus k.0 h.0 z h.2.0 k.2 h.4)
code_one end z text other (inr h) (inr k) =
    h.3 ∙ ap (λ (t : List ℕ). 45 ∷ t) (h.2.2 ∙ ap (number_text (minus_form end)) (minus_is h.0 k.0 h.2.0 k.2.0 (sym h.4 ∙ k.4)) ∙ sym k.2.2) ∙ sym k.3

-- ---- words as their writers write them

pub text_whole : (form : TextForm) (t : List ℕ) → text_text form t ≡ quoted t ++ end_byte form.behind ∷ []
text_whole form t = ap (λ (x : List ℕ). 34 ∷ x) (sym (append_assoc (spelled t) (34 ∷ []) (end_byte form.behind ∷ [])))

-- a text or none is said as it is written
pub optional_said : (form : TextForm) (o : Option (List ℕ)) → IfSome o (IsTextOf form) → IsOptional form o (optional_text o ++ end_byte form.behind ∷ [])
optional_said form None h = inr (0, end_byte form.behind ∷ [], refl, refl, refl)
optional_said form (Some t) h = inl (t, (h.utf8, h.least, h.greatest, sym (text_whole form t)), refl)

-- and in no other way
pub optional_found : (form : TextForm) (o : Option (List ℕ)) (text : List ℕ) → IsOptional form o text → text ≡ optional_text o ++ end_byte form.behind ∷ []
optional_found form None text h = optional_one form None text _ h (optional_said form None tt)
optional_found form (Some t) text (inl h) = h.1.3 ∙ ap (text_text form) (some_is h.0 t (sym h.2)) ∙ text_whole form t
optional_found form (Some t) text (inr h) = absurd (not_none t h.0 (Some t) refl h.4)

-- ---- lists of texts

-- the texts, each with the byte behind it
abbrev texts_text : TextForm → List (List ℕ) → List ℕ
texts_text form [] = []
texts_text form (t ∷ ts) = text_text (text_before (length ts) form) t ++ texts_text form ts

texts_said : (form : TextForm) (ts : List (List ℕ)) → AllByRecursion (IsTextOf form) ts → IsTexts form (length ts) ts (texts_text form ts)
texts_said form [] h = (refl, refl)
texts_said form (t ∷ ts) h =
    (t, text_text (text_before (length ts) form) t, texts_text form ts, (h.0.utf8, h.0.least, h.0.greatest, refl), (ts, texts_text form ts, [], texts_said form ts h.1, (refl, refl), sym (append-nil (texts_text form ts))), refl)

-- what a list says has one spelling, and says as much as its count
abbrev TextsFound : TextForm → ℕ → List (List ℕ) → List ℕ → Type 0
TextsFound form n ts text = (n ≡ length ts) × (text ≡ texts_text form ts) × AllByRecursion (IsTextOf form) ts

texts_found : (form : TextForm) (n : ℕ) (ts : List (List ℕ)) (text : List ℕ) → IsTexts form n ts text → TextsFound form n ts text
texts_found form zero ts text h = subst (λ (x : List (List ℕ)). TextsFound form 0 x text) (sym h.0) (refl, h.1, tt)
texts_found form (suc n) ts text h =
    let o = h.4 in
    let r = texts_found form n o.0 o.1 o.3 in
    let second : h.2 ≡ texts_text form o.0 = o.5 ∙ ap (λ (x : List ℕ). o.1 ++ x) o.4.1 ∙ append-nil o.1 ∙ r.1 in
    subst (λ (x : List (List ℕ)). TextsFound form (suc n) x text) (sym o.4.0) (
      ap (λ (k : ℕ). suc k) r.0,
      h.5 ∙ ap (λ (x : List ℕ). x ++ h.2) (h.3.3 ∙ ap (λ (k : ℕ). text_text (text_before k form) h.0) r.0) ∙ ap (λ (x : List ℕ). text_text (text_before (length o.0) form) h.0 ++ x) second,
      (record { utf8 = h.3.0; least = h.3.1; greatest = h.3.2 }, r.2),
    )

-- the byte behind one word stands before the next
texts_shift : (form : TextForm) (ts : List (List ℕ)) → end_byte (end_before (length ts) form.behind) ∷ texts_text form ts ≡ flat_map spaced_text ts ++ end_byte form.behind ∷ []
texts_shift form [] = refl
texts_shift form (t ∷ ts) =
    ap (λ (x : List ℕ). 32 ∷ 34 ∷ x) (append_assoc (spelled t) (34 ∷ end_byte (end_before (length ts) form.behind) ∷ []) (texts_text form ts)
    ∙ ap (λ (x : List ℕ). spelled t ++ (34 ∷ x)) (texts_shift form ts)
    ∙ sym (append_assoc (spelled t) (34 ∷ []) (flat_map spaced_text ts ++ end_byte form.behind ∷ [])))
    ∙ sym (append_assoc (spaced_text t) (flat_map spaced_text ts) (end_byte form.behind ∷ []))

count_end : (most n : ℕ) (end : End) → end_of (count_form most end) n ≡ end_before n end
count_end most zero end = refl
count_end most (suc n) end = refl

texts_whole : (most : ℕ) (form : TextForm) (ts : List (List ℕ)) → number_text (count_form most form.behind) (length ts) ++ texts_text form ts ≡ counted_texts ts ++ end_byte form.behind ∷ []
texts_whole most form ts =
    append_assoc (decimal (length ts)) (end_byte (end_of (count_form most form.behind) (length ts)) ∷ []) (texts_text form ts)
    ∙ ap (λ (e : End). decimal (length ts) ++ (end_byte e ∷ texts_text form ts)) (count_end most (length ts) form.behind)
    ∙ ap (λ (x : List ℕ). decimal (length ts) ++ x) (texts_shift form ts)
    ∙ sym (append_assoc (decimal (length ts)) (flat_map spaced_text ts) (end_byte form.behind ∷ []))

-- a list of texts is said as it is written
pub text_list_said : (most : ℕ) (form : TextForm) (ts : List (List ℕ)) → length ts ≤ most → AllByRecursion (IsTextOf form) ts → IsTextList most form ts (counted_texts ts ++ end_byte form.behind ∷ [])
text_list_said most form ts le h =
    (length ts, number_text (count_form most form.behind) (length ts), texts_text form ts, (omega arith, le, refl), texts_said form ts h, sym (texts_whole most form ts))

-- and in no other way
pub text_list_found : (most : ℕ) (form : TextForm) (ts : List (List ℕ)) (text : List ℕ) → IsTextList most form ts text → text ≡ counted_texts ts ++ end_byte form.behind ∷ []
text_list_found most form ts text h =
    let r = texts_found form h.0 ts h.2 h.4 in
    h.5 ∙ ap (λ (x : List ℕ). x ++ h.2) (h.3.2 ∙ ap (number_text (count_form most form.behind)) r.0) ∙ ap (λ (x : List ℕ). number_text (count_form most form.behind) (length ts) ++ x) r.1 ∙ texts_whole most form ts

-- a list that was read has no more texts than its count may say
pub text_list_within : (most : ℕ) (form : TextForm) (bytes : List ℕ) (ts : List (List ℕ)) (rest : List ℕ) → is_number_form (count_form most form.behind) ≡ true → is_text_form form ≡ true → text_list_at most form bytes ≡ Ok (ts, rest) → length ts ≤ most
text_list_within most form bytes ts rest counts ok e =
    let h = ((text_list_reads most form counts ok).found bytes ts rest e).1 in
    omega (arith, h.3.1, (texts_found form h.0 ts h.2 h.4).0)

-- ---- lists of numbers

abbrev numbers_text : NumberForm → List ℕ → List ℕ
numbers_text form [] = []
numbers_text form (n ∷ ns) = number_text (number_before (length ns) form) n ++ numbers_text form ns

numbers_said : (form : NumberForm) (ns : List ℕ) → AllByRecursion (IsNumberOf form) ns → IsNumbers form (length ns) ns (numbers_text form ns)
numbers_said form [] h = (refl, refl)
numbers_said form (n ∷ ns) h =
    (n, number_text (number_before (length ns) form) n, numbers_text form ns, (h.0.least, h.0.greatest, refl), (ns, numbers_text form ns, [], numbers_said form ns h.1, (refl, refl), sym (append-nil (numbers_text form ns))), refl)

abbrev NumbersFound : NumberForm → ℕ → List ℕ → List ℕ → Type 0
NumbersFound form n ns text = (n ≡ length ns) × (text ≡ numbers_text form ns) × AllByRecursion (IsNumberOf form) ns

numbers_found : (form : NumberForm) (n : ℕ) (ns text : List ℕ) → IsNumbers form n ns text → NumbersFound form n ns text
numbers_found form zero ns text h = subst (λ (x : List ℕ). NumbersFound form 0 x text) (sym h.0) (refl, h.1, tt)
numbers_found form (suc n) ns text h =
    let o = h.4 in
    let r = numbers_found form n o.0 o.1 o.3 in
    let second : h.2 ≡ numbers_text form o.0 = o.5 ∙ ap (λ (x : List ℕ). o.1 ++ x) o.4.1 ∙ append-nil o.1 ∙ r.1 in
    subst (λ (x : List ℕ). NumbersFound form (suc n) x text) (sym o.4.0) (
      ap (λ (k : ℕ). suc k) r.0,
      h.5 ∙ ap (λ (x : List ℕ). x ++ h.2) (h.3.2 ∙ ap (λ (k : ℕ). number_text (number_before k form) h.0) r.0) ∙ ap (λ (x : List ℕ). number_text (number_before (length o.0) form) h.0 ++ x) second,
      (record { least = h.3.0; greatest = h.3.1 }, r.2),
    )

same_end : (form : NumberForm) (k n : ℕ) → end_of (number_before k form) n ≡ end_before k form.behind
same_end form k zero = refl
same_end form k (suc n) = refl

numbers_shift : (form : NumberForm) (ns : List ℕ) → end_byte (end_before (length ns) form.behind) ∷ numbers_text form ns ≡ flat_map spaced_number ns ++ end_byte form.behind ∷ []
numbers_shift form [] = refl
numbers_shift form (n ∷ ns) =
    ap (λ (x : List ℕ). 32 ∷ x) (append_assoc (decimal n) (end_byte (end_of (number_before (length ns) form) n) ∷ []) (numbers_text form ns)
    ∙ ap (λ (e : End). decimal n ++ (end_byte e ∷ numbers_text form ns)) (same_end form (length ns) n)
    ∙ ap (λ (x : List ℕ). decimal n ++ x) (numbers_shift form ns))
    ∙ sym (append_assoc (spaced_number n) (flat_map spaced_number ns) (end_byte form.behind ∷ []))

numbers_whole : (most : ℕ) (form : NumberForm) (ns : List ℕ) → number_text (count_form most form.behind) (length ns) ++ numbers_text form ns ≡ counted_numbers ns ++ end_byte form.behind ∷ []
numbers_whole most form ns =
    append_assoc (decimal (length ns)) (end_byte (end_of (count_form most form.behind) (length ns)) ∷ []) (numbers_text form ns)
    ∙ ap (λ (e : End). decimal (length ns) ++ (end_byte e ∷ numbers_text form ns)) (count_end most (length ns) form.behind)
    ∙ ap (λ (x : List ℕ). decimal (length ns) ++ x) (numbers_shift form ns)
    ∙ sym (append_assoc (decimal (length ns)) (flat_map spaced_number ns) (end_byte form.behind ∷ []))

pub number_list_said : (most : ℕ) (form : NumberForm) (ns : List ℕ) → length ns ≤ most → AllByRecursion (IsNumberOf form) ns → IsNumberList most form ns (counted_numbers ns ++ end_byte form.behind ∷ [])
number_list_said most form ns le h =
    (length ns, number_text (count_form most form.behind) (length ns), numbers_text form ns, (omega arith, le, refl), numbers_said form ns h, sym (numbers_whole most form ns))

pub number_list_found : (most : ℕ) (form : NumberForm) (ns text : List ℕ) → IsNumberList most form ns text → text ≡ counted_numbers ns ++ end_byte form.behind ∷ []
number_list_found most form ns text h =
    let r = numbers_found form h.0 ns h.2 h.4 in
    h.5 ∙ ap (λ (x : List ℕ). x ++ h.2) (h.3.2 ∙ ap (number_text (count_form most form.behind)) r.0) ∙ ap (λ (x : List ℕ). number_text (count_form most form.behind) (length ns) ++ x) r.1 ∙ numbers_whole most form ns

-- the bounds of numbers are the same with each end
pub within_ends : (least greatest : ℕ) (end other : End) (ns : List ℕ) → AllByRecursion (IsNumberOf (number_form least greatest end)) ns → AllByRecursion (IsNumberOf (number_form least greatest other)) ns
within_ends least greatest end other [] h = tt
within_ends least greatest end other (n ∷ ns) h = (record { least = h.0.least; greatest = h.0.greatest }, within_ends least greatest end other ns h.1)

pub ended_numbers_within : (most least greatest : ℕ) (bytes : List ℕ) (said : End × List ℕ) (rest : List ℕ) → is_number_form (count_form most Space) ≡ true → is_number_form (number_form least greatest Space) ≡ true → ended_numbers_at most least greatest bytes ≡ Ok (said, rest) → (length said.1 ≤ most) × AllByRecursion (IsNumberOf (number_form least greatest Line)) said.1
ended_numbers_within most least greatest bytes said rest counts ok e =
    let h = ((ended_numbers_reads most least greatest counts ok).found bytes said rest e).1 in
    let r = numbers_found (number_form least greatest said.0) h.0 said.1 h.2 h.4 in
    (omega (arith, h.3.1, r.0), within_ends least greatest said.0 Line said.1 r.2)

-- ---- the laws

pub one_spelling : WordsHaveOneSpelling
one_spelling = record {
  number = number_one;
  text = text_one;
  optional = optional_one;
  code = code_one;
  word = word_one;
  texts = λ most form ts text other h k. text_list_found most form ts text h ∙ sym (text_list_found most form ts other k);
  numbers = λ most form ns text other h k. number_list_found most form ns text h ∙ sym (number_list_found most form ns other k);
  ended = λ most least greatest said text other h k. number_list_found most (number_form least greatest said.0) said.1 text h ∙ sym (number_list_found most (number_form least greatest said.0) said.1 other k);
}

pub read_again : WordsAreReadAgain
read_again = record {
  number = λ form n rest ok h. (number_reads form ok).again n (number_text form n) rest (h.least, h.greatest, refl);
  text = λ form text rest ok h. (text_reads form ok).again text (text_text form text) rest (h.utf8, h.least, h.greatest, refl);
  texts = λ most form ts rest counts ok le h. (text_list_reads most form counts ok).again ts (counted_texts ts ++ end_byte form.behind ∷ []) rest (text_list_said most form ts le h);
  numbers = λ most form ns rest counts ok le h. (number_list_reads most form counts ok).again ns (counted_numbers ns ++ end_byte form.behind ∷ []) rest (number_list_said most form ns le h);
  ended = λ most least greatest end ns rest counts ok le h. (ended_numbers_reads most least greatest counts ok).again (end, ns) (counted_numbers ns ++ end_byte end ∷ []) rest (number_list_said most (number_form least greatest end) ns le h);
}
