-- What two grammars put together say, and how they are read.
use Rattle.std.proofs.Common.{◌≡◌, ℕ, List, [], ◌∷◌, ◌++◌, Result, Ok, Err, refl, sym, ap, subst, ◌∙◌, append_assoc}
use Rattle.line_grammar.specs.Languages.{Then}
use Rattle.line_grammar.specs.Reading.{◌>>=◌}
use Rattle.line_grammar.specs.Numbers.{IsNumber, number_at}
use Rattle.line_grammar.specs.Texts.{IsText, text_at}
use Rattle.line_grammar.specs.Choices.{IsWord, words_at}
use Rattle.line_grammar.specs.Dashes.{IsOptional, optional_at, IsCode, code_at}
use Rattle.line_grammar.specs.Lists.{IsTextList, text_list_at, IsEndedNumbers, ended_numbers_at}
use Rattle.line_grammar.specs.Grammar.{Grammar, Gives, Number, Text, Optional, Code, Choice, TextList, EndedNumbers, Says, reading}
use Rattle.line_grammar.specs.Parts.{and_then}

-- ---- a text of the first and behind it one of the second is said

said_behind : {V D E : Type 0} (L : V → List ℕ → Type 0) (M : V → D → List ℕ → Type 0) (N : V → E → List ℕ → Type 0) (d : D) (e : E) (first second : List ℕ) → ((v : V) (t : List ℕ) → M v d t → N v e (t ++ second)) → Then L M d first → Then L N e (first ++ second)
said_behind L M N d e first second on h = (h.0, h.1, h.2 ++ second, h.3, on h.0 h.2 h.4, ap (λ (x : List ℕ). x ++ second) h.5 ∙ append_assoc h.1 h.2 second)

pub part_said : {D E : Type 0} (g : Grammar D) (next : D → Grammar E) (d : D) (e : E) (first second : List ℕ) → Says g d first → Says (next d) e second → Says (and_then g next) e (first ++ second)
part_said {D} {E} (Gives x) next d e first second h k = subst (λ (t : List ℕ). Says (next x) e (t ++ second)) (sym h.1) (subst (λ (v : D). Says (next v) e second) h.0 k)
part_said (Number form ok more) next d e first second h k = said_behind (IsNumber form) (λ n. Says (more n)) (λ n. Says (and_then (more n) next)) d e first second (λ n t s. part_said (more n) next d e t second s k) h
part_said (Text form ok more) next d e first second h k = said_behind (IsText form) (λ n. Says (more n)) (λ n. Says (and_then (more n) next)) d e first second (λ n t s. part_said (more n) next d e t second s k) h
part_said (Optional form ok more) next d e first second h k = said_behind (IsOptional form) (λ n. Says (more n)) (λ n. Says (and_then (more n) next)) d e first second (λ n t s. part_said (more n) next d e t second s k) h
part_said (Code end more) next d e first second h k = said_behind (IsCode end) (λ n. Says (more n)) (λ n. Says (and_then (more n) next)) d e first second (λ n t s. part_said (more n) next d e t second s k) h
part_said (Choice word words ok more) next d e first second h k = said_behind (IsWord (word ∷ words)) (λ n. Says (more n)) (λ n. Says (and_then (more n) next)) d e first second (λ n t s. part_said (more n) next d e t second s k) h
part_said (TextList most form counts ok more) next d e first second h k = said_behind (IsTextList most form) (λ n. Says (more n)) (λ n. Says (and_then (more n) next)) d e first second (λ n t s. part_said (more n) next d e t second s k) h
part_said (EndedNumbers most least greatest counts ok more) next d e first second h k = said_behind (IsEndedNumbers most least greatest) (λ n. Says (more n.0 n.1)) (λ n. Says (and_then (more n.0 n.1) next)) d e first second (λ n t s. part_said (more n.0 n.1) next d e t second s k) h

-- ---- and nothing else is

found_behind : {V D E : Type 0} (L : V → List ℕ → Type 0) (M : V → D → List ℕ → Type 0) (N : V → E → List ℕ → Type 0) (K : D → E → List ℕ → Type 0) (e : E) (text : List ℕ) → ((v : V) (t : List ℕ) → N v e t → Then (M v) K e t) → Then L N e text → Then (Then L M) K e text
found_behind L M N K e text on h =
    let r = on h.0 h.2 h.4 in
    (r.0, h.1 ++ r.1, r.2, (h.0, h.1, r.1, h.3, r.3, refl), r.4, h.5 ∙ ap (λ (x : List ℕ). h.1 ++ x) r.5 ∙ sym (append_assoc h.1 r.1 r.2))

pub part_found : {D E : Type 0} (g : Grammar D) (next : D → Grammar E) (e : E) (text : List ℕ) → Says (and_then g next) e text → Then (Says g) (λ d. Says (next d)) e text
part_found (Gives x) next e text h = (x, [], text, (refl, refl), h, refl)
part_found (Number form ok more) next e text h = found_behind (IsNumber form) (λ n. Says (more n)) (λ n. Says (and_then (more n) next)) (λ d. Says (next d)) e text (λ n t s. part_found (more n) next e t s) h
part_found (Text form ok more) next e text h = found_behind (IsText form) (λ n. Says (more n)) (λ n. Says (and_then (more n) next)) (λ d. Says (next d)) e text (λ n t s. part_found (more n) next e t s) h
part_found (Optional form ok more) next e text h = found_behind (IsOptional form) (λ n. Says (more n)) (λ n. Says (and_then (more n) next)) (λ d. Says (next d)) e text (λ n t s. part_found (more n) next e t s) h
part_found (Code end more) next e text h = found_behind (IsCode end) (λ n. Says (more n)) (λ n. Says (and_then (more n) next)) (λ d. Says (next d)) e text (λ n t s. part_found (more n) next e t s) h
part_found (Choice word words ok more) next e text h = found_behind (IsWord (word ∷ words)) (λ n. Says (more n)) (λ n. Says (and_then (more n) next)) (λ d. Says (next d)) e text (λ n t s. part_found (more n) next e t s) h
part_found (TextList most form counts ok more) next e text h = found_behind (IsTextList most form) (λ n. Says (more n)) (λ n. Says (and_then (more n) next)) (λ d. Says (next d)) e text (λ n t s. part_found (more n) next e t s) h
part_found (EndedNumbers most least greatest counts ok more) next e text h = found_behind (IsEndedNumbers most least greatest) (λ n. Says (more n.0 n.1)) (λ n. Says (and_then (more n.0 n.1) next)) (λ d. Says (next d)) e text (λ n t s. part_found (more n.0 n.1) next e t s) h

-- ---- reading them is reading the one and then the other

read_behind : {A B C : Type 0} (read : Result A ℕ) (f : A → Result B ℕ) (g : A → Result C ℕ) (k : B → Result C ℕ) → ((x : A) → g x ≡ (f x >>= k)) → (read >>= g) ≡ ((read >>= f) >>= k)
read_behind (Ok x) f g k on = on x
read_behind (Err left) f g k on = refl

pub part_reading : {D E : Type 0} (g : Grammar D) (next : D → Grammar E) (bytes : List ℕ) → reading (and_then g next) bytes ≡ (reading g bytes >>= λ x. reading (next x.0) x.1)
part_reading (Gives x) next bytes = refl
part_reading (Number form ok more) next bytes = read_behind (number_at form bytes) (λ x. reading (more x.0) x.1) (λ x. reading (and_then (more x.0) next) x.1) (λ x. reading (next x.0) x.1) (λ x. part_reading (more x.0) next x.1)
part_reading (Text form ok more) next bytes = read_behind (text_at form bytes) (λ x. reading (more x.0) x.1) (λ x. reading (and_then (more x.0) next) x.1) (λ x. reading (next x.0) x.1) (λ x. part_reading (more x.0) next x.1)
part_reading (Optional form ok more) next bytes = read_behind (optional_at form bytes) (λ x. reading (more x.0) x.1) (λ x. reading (and_then (more x.0) next) x.1) (λ x. reading (next x.0) x.1) (λ x. part_reading (more x.0) next x.1)
part_reading (Code end more) next bytes = read_behind (code_at end bytes) (λ x. reading (more x.0) x.1) (λ x. reading (and_then (more x.0) next) x.1) (λ x. reading (next x.0) x.1) (λ x. part_reading (more x.0) next x.1)
part_reading (Choice word words ok more) next bytes = read_behind (words_at (word ∷ words) bytes) (λ x. reading (more x.0) x.1) (λ x. reading (and_then (more x.0) next) x.1) (λ x. reading (next x.0) x.1) (λ x. part_reading (more x.0) next x.1)
part_reading (TextList most form counts ok more) next bytes = read_behind (text_list_at most form bytes) (λ x. reading (more x.0) x.1) (λ x. reading (and_then (more x.0) next) x.1) (λ x. reading (next x.0) x.1) (λ x. part_reading (more x.0) next x.1)
part_reading (EndedNumbers most least greatest counts ok more) next bytes = read_behind (ended_numbers_at most least greatest bytes) (λ x. reading (more x.0.0 x.0.1) x.1) (λ x. reading (and_then (more x.0.0 x.0.1) next) x.1) (λ x. reading (next x.0) x.1) (λ x. part_reading (more x.0.0 x.0.1) next x.1)
