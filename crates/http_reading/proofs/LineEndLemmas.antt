-- Heads and the lines before chunks end with an LF, so none comes of bytes without one.
use Rattle.std.proofs.Common.{◌≡◌, ℕ, ◌≤◌, ◌⊎◌, Bool, true, false, ◌||◌, List, [], ◌∷◌, ◌++◌, length, drop, Option, Some, None, MatchOption, inl, inr, refl, sym, ap, ◌∙◌, append_assoc, append-nil}
use Rattle.std.specs.Prelude.{◌==◌}
use Rattle.std.specs.List.{list_any, flat_map}
use Rattle.std.proofs.lemmas.Bool.{true≢false}
use Rattle.std.proofs.lemmas.List.{drop-append-le}
use Rattle.std.proofs.lemmas.List.Folds.{list_any-append}
use Rattle.httparse.specs.Grammar.{LineEnd, crlf, lf, print_end, print_field, print_section, RequestHead, print_request, HasNoRequest, ResponseHead, print_response, HasNoResponse, ChunkLine, print_chunk_line, HasNoChunkLine}
use Rattle.http_reading.specs.Draws.{SameLine}

-- ---- what ends with an LF

abbrev EndsLine : List ℕ → Type 0
EndsLine bytes = (front : List ℕ) × (bytes ≡ front ++ 10 ∷ [])

ends_behind : (xs ys : List ℕ) → EndsLine ys → EndsLine (xs ++ ys)
ends_behind xs ys (front, is) = (xs ++ front, ap (λ (t : List ℕ). xs ++ t) is ∙ sym (append_assoc xs front (10 ∷ [])))

ends : (end : LineEnd) → EndsLine (print_end end)
ends crlf = (13 ∷ [], refl)
ends lf = ([], refl)

request_ends : (h : RequestHead) → EndsLine (print_request h)
unfolding print_request
request_ends h = ends_behind _ (print_section h.fields h.last) (ends_behind (flat_map print_field h.fields) (print_end h.last) (ends h.last))

response_ends : (h : ResponseHead) → EndsLine (print_response h)
unfolding print_response
response_ends h = ends_behind _ (print_section h.fields h.last) (ends_behind (flat_map print_field h.fields) (print_end h.last) (ends h.last))

chunk_line_ends : (l : ChunkLine) → EndsLine (print_chunk_line l)
unfolding print_chunk_line
chunk_line_ends l = ends_behind _ (print_end crlf) (ends crlf)

-- ---- no LF, and so no end

abbrev pub has_lf : List ℕ → Bool
has_lf bytes = list_any (λ b. b == 10) bytes

or_true : (b : Bool) → (b || true) ≡ true
or_true true = refl
or_true false = refl

last_is : (front : List ℕ) → has_lf (front ++ 10 ∷ []) ≡ true
last_is front = list_any-append (λ b. b == 10) front (10 ∷ []) ∙ or_true (has_lf front)

-- the last of some bytes is the last of those that end with them
last_in : (xs : List ℕ) (y : ℕ) (ys front : List ℕ) → xs ++ (y ∷ ys) ≡ front ++ 10 ∷ [] → has_lf (y ∷ ys) ≡ true
last_in [] y ys front e = ap has_lf e ∙ last_is front
last_in (x ∷ []) y ys [] e = absurd (let never : ⊥ = cc in never)
last_in (x ∷ z ∷ xs) y ys [] e = absurd (let never : ⊥ = cc in never)
last_in (x ∷ xs) y ys (f ∷ front) e = last_in xs y ys front (cc)

-- two cuts of the same bytes: the first front holds the second, or the second goes on behind it
two_fronts : (xs ys us vs : List ℕ) → xs ++ ys ≡ us ++ vs
    → ((ws : List ℕ) × (xs ≡ us ++ ws)) ⊎ ((w : ℕ) × (ws : List ℕ) × (us ≡ xs ++ (w ∷ ws)) × (ys ≡ (w ∷ ws) ++ vs))
two_fronts [] ys [] vs e = inl ([], refl)
two_fronts [] ys (u ∷ us) vs e = inr (u, us, refl, e)
two_fronts (x ∷ xs) ys [] vs e = inl (x ∷ xs, refl)
two_fronts (x ∷ xs) ys (u ∷ us) vs e =
    elim (two_fronts xs ys us vs (cc)) [
      | inl h ↦ inl (h.0, cc)
      | inr h ↦ inr (h.0, h.1, cc, h.3)
    ]

-- what ends with an LF and stands in front stood there before bytes without one came
stood : (held bytes front rest : List ℕ) → EndsLine front → held ++ bytes ≡ front ++ rest → has_lf bytes ≡ false → (ws : List ℕ) × (held ≡ front ++ ws)
stood held bytes front rest (before, is) e none =
    elim (two_fronts held bytes front rest e) [
      | inl h ↦ h
      | inr h ↦
          let some : has_lf (h.0 ∷ h.1) ≡ true = last_in held h.0 h.1 before (sym h.2 ∙ is) in
          let all : has_lf bytes ≡ (has_lf (h.0 ∷ h.1) || has_lf rest) = ap has_lf h.3 ∙ list_any-append (λ b. b == 10) (h.0 ∷ h.1) rest in
          let found : has_lf bytes ≡ true = all ∙ ap (λ b. b || has_lf rest) some in
          absurd (true≢false (sym found ∙ none))
    ]

pub request_line : (held holds : List ℕ) → HasNoRequest held → SameLine held holds → HasNoRequest holds
request_line held holds none (bytes, grown, same) h rest reads =
    let before = stood held bytes (print_request h) rest (request_ends h) (sym grown ∙ reads.1) same in
    none h before.0 (reads.0, before.1)

pub response_line : (held holds : List ℕ) → HasNoResponse held → SameLine held holds → HasNoResponse holds
response_line held holds none (bytes, grown, same) h rest reads =
    let before = stood held bytes (print_response h) rest (response_ends h) (sym grown ∙ reads.1) same in
    none h before.0 (reads.0, before.1)

pub chunk_line : (held holds : List ℕ) → HasNoChunkLine held → SameLine held holds → HasNoChunkLine holds
chunk_line held holds none (bytes, grown, same) l rest reads =
    let before = stood held bytes (print_chunk_line l) rest (chunk_line_ends l) (sym grown ∙ reads.1) same in
    none l before.0 (reads.0, before.1)

-- no bytes hold no request
pub request_nowhere : HasNoRequest []
request_nowhere h rest reads = nothing (request_ends h).0 rest (reads.1 ∙ ap (λ (t : List ℕ). t ++ rest) (request_ends h).1) where
  nothing : (front rest : List ℕ) → [] ≡ (front ++ 10 ∷ []) ++ rest → ⊥
  nothing [] rest e = cc
  nothing (x ∷ front) rest e = cc

-- ---- bytes that come

-- none yet
pub same_none : (held : List ℕ) → SameLine held held
same_none held = ([], sym (append-nil held), refl)

-- more bytes without an LF
pub same_more : (held mid holds came : List ℕ) → SameLine held mid → holds ≡ mid ++ came → has_lf came ≡ false → SameLine held holds
same_more held mid holds came (bytes, grown, same) more none = (
  bytes ++ came,
  more ∙ ap (λ (t : List ℕ). t ++ came) grown ∙ append_assoc held bytes came,
  list_any-append (λ b. b == 10) bytes came ∙ ap (λ b. b || has_lf came) same ∙ none,
)

-- the same, behind a place in the held ones
pub same_behind : (at : ℕ) (held holds : List ℕ) → at ≤ length held → SameLine held holds → SameLine (drop at held) (drop at holds)
same_behind at held holds inside (bytes, grown, same) = (bytes, ap (drop at) grown ∙ drop-append-le at held bytes inside, same)

-- what holds where there is none
pub not_some : {T P : Type 0} (Q : T → Type 0) (o : Option T) → ((x : T) → o ≡ Some x → ⊥) → MatchOption o P Q → P
not_some Q None never h = h
not_some Q (Some x) never h = absurd (never x refl)
