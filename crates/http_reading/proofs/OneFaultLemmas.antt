-- Bytes have one fault at most, but where their head leaves open which.
use Rattle.std.proofs.Common.{◌≡◌, ℕ, ◌+◌, ◌<◌, ◌≤◌, Bool, List, [], ◌∷◌, ◌++◌, length, take, drop, refl, sym, ap, ◌∙◌, subst, arith, length-append, take-append-drop, append_assoc, inl, inr}
use Rattle.std.specs.Prelude.{◌⊎◌}
use Rattle.std.proofs.lemmas.Bool.{cases_lt}
use Rattle.std.proofs.lemmas.List.{take_all, take-take}
use Rattle.httparse.specs.Grammar.{RequestHead, print_request, NeverHasRequest, MayBecomeRequest, EndsInTarget, ChunkLine, print_chunk_line, chunk_size, ReadsChunkLine, MayBecomeChunkLine, NeverHasChunkLine}
use Rattle.httparse.proofs.GrammarLemmas.{request_unique}
use Rattle.job_values.specs.declared.limits.TheConstants.{LONGEST_BODY}
use Rattle.http_reading.specs.Draws.{IsOutside}
use Rattle.http_reading.specs.Plans.{plan_of, fields_of}
use Rattle.http_reading.specs.declared.plan.TheConstants.{MOST_LINE}
use Rattle.http_reading.specs.Chunks.{Chunk, Line, ReadsChunks, contents_of, OpenLine, LongLine, BadLine, Unclosed, BadClose, LargeChunk, TailFault, ChunkedFault}
use Rattle.http_reading.specs.Bodies.{BodyFault}
use Rattle.http_reading.specs.Requests.{OpenHead, LongHead, CrowdedHead, HeadFault}
use Rattle.http_reading.specs.Laws.{LeavesOpen, OneFault}
use Rattle.http_reading.specs.declared.plan.BodyPlan.{BodyPlan}
use Rattle.http_reading.specs.declared.plan.BodyPlan.TheVariants.{Empty, Sized, Chunked, ToEnd, Bad, TooLarge as Huge}
use Rattle.http_reading.specs.declared.fault.HttpFault.{HttpFault}
use Rattle.http_reading.specs.declared.fault.HttpFault.TheVariants.{Ended, BadHead, TooLarge, BadBody, LinkFault, NoMemory}
use Rattle.http_reading.proofs.LawLemmas.{head_no_fault}
use Rattle.http_reading.proofs.UniqueLemmas.{cut_same, first_byte, line_same, chunk_same, no_front_line, plus_none, tail_no_fault}

-- ---- heads

-- a fault of a head, with what it says of the bytes
abbrev HeadWhy : List ℕ → HttpFault → Type 0
HeadWhy bytes fault =
    ((fault ≡ Ended (length bytes)) × OpenHead bytes)
    ⊎ (((fault ≡ BadHead) × NeverHasRequest (take MOST_LINE bytes)) ⊎ ((fault ≡ TooLarge) × (LongHead bytes ⊎ CrowdedHead bytes)))

head_why : (bytes : List ℕ) (ended : Bool) (fault : HttpFault) → HeadFault bytes ended fault → IsOutside fault ⊎ HeadWhy bytes fault
head_why bytes ended (Ended taken) h = inr (inl (ap Ended h.1, h.3))
head_why bytes ended BadHead h = inr (inr (inl (refl, h)))
head_why bytes ended TooLarge h = inr (inr (inr (refl, h)))
head_why bytes ended (BadBody place) h = absurd h
head_why bytes ended LinkFault h = inl (inl refl)
head_why bytes ended NoMemory h = inl (inr refl)

-- bytes that may become a head and never have one end inside their target
in_target : (bytes : List ℕ) → MayBecomeRequest bytes → NeverHasRequest bytes → EndsInTarget bytes
in_target bytes (inl m) never = absurd (never m.0 m.1 [] m.2)
in_target bytes (inr target) never = target

open_bad : (bytes : List ℕ) → OpenHead bytes → NeverHasRequest (take MOST_LINE bytes) → LeavesOpen bytes
open_bad bytes h never =
    let all : take MOST_LINE bytes ≡ bytes = take_all MOST_LINE bytes (omega (arith, h.few)) in
    inl (in_target (take MOST_LINE bytes) (subst MayBecomeRequest (sym all) h.some) never, never)

heads_one : (bytes : List ℕ) (e f : HttpFault) → HeadWhy bytes e → HeadWhy bytes f → (e ≡ f) ⊎ LeavesOpen bytes
heads_one bytes e f (inl x) (inl y) = inl (x.0 ∙ sym y.0)
heads_one bytes e f (inl x) (inr (inl y)) = inr (open_bad bytes x.1 y.1)
heads_one bytes e f (inl x) (inr (inr (q, inl long))) = absurd (omega (arith, x.1.few, long.many))
heads_one bytes e f (inl x) (inr (inr (q, inr crowded))) = inr (inr crowded)
heads_one bytes e f (inr (inl x)) (inl y) = inr (open_bad bytes y.1 x.1)
heads_one bytes e f (inr (inl x)) (inr (inl y)) = inl (x.0 ∙ sym y.0)
heads_one bytes e f (inr (inl x)) (inr (inr (q, inl long))) = inr (inl (in_target (take MOST_LINE bytes) long.some x.1, x.1))
heads_one bytes e f (inr (inl x)) (inr (inr (q, inr crowded))) = inr (inr crowded)
heads_one bytes e f (inr (inr (p, inl long))) (inl y) = absurd (omega (arith, y.1.few, long.many))
heads_one bytes e f (inr (inr (p, inl long))) (inr (inl y)) = inr (inl (in_target (take MOST_LINE bytes) long.some y.1, y.1))
heads_one bytes e f (inr (inr (p, inl long))) (inr (inr y)) = inl (p ∙ sym y.0)
heads_one bytes e f (inr (inr (p, inr crowded))) y = inr (inr crowded)

-- ---- the tail of a chunked body: no line is there, or one is and what follows it has the fault

abbrev NoLine : ℕ → List ℕ → HttpFault → Type 0
NoLine at bytes fault =
    ((fault ≡ Ended (at + length bytes)) × OpenLine bytes)
    ⊎ (((fault ≡ TooLarge) × LongLine bytes) ⊎ ((k : ℕ) × (fault ≡ BadBody (at + k)) × BadLine bytes k))

abbrev WithLine : ℕ → ℕ → List ℕ → HttpFault → Type 0
WithLine at before bytes fault =
    ((fault ≡ Ended (at + length bytes)) × Unclosed before bytes)
    ⊎ (((fault ≡ TooLarge) × LargeChunk before bytes) ⊎ ((k : ℕ) × (fault ≡ BadBody (at + k)) × BadClose before bytes k))

tail_why : (at before : ℕ) (bytes : List ℕ) (ended : Bool) (fault : HttpFault) → TailFault at before bytes ended fault → IsOutside fault ⊎ (NoLine at bytes fault ⊎ WithLine at before bytes fault)
tail_why at before bytes ended (Ended taken) (end, is, inl h) = inr (inl (inl (ap Ended is, h)))
tail_why at before bytes ended (Ended taken) (end, is, inr h) = inr (inr (inl (ap Ended is, h)))
tail_why at before bytes ended BadHead h = absurd h
tail_why at before bytes ended TooLarge (inl h) = inr (inl (inr (inl (refl, h))))
tail_why at before bytes ended TooLarge (inr h) = inr (inr (inr (inl (refl, h))))
tail_why at before bytes ended (BadBody place) (k, is, inl h) = inr (inl (inr (inr (k, ap BadBody is, h))))
tail_why at before bytes ended (BadBody place) (k, is, inr h) = inr (inr (inr (inr (k, ap BadBody is, h))))
tail_why at before bytes ended LinkFault h = inl (inl refl)
tail_why at before bytes ended NoMemory h = inl (inr refl)

-- bytes that may become a line do not begin with some that never have one
may_not : (n : ℕ) (bytes : List ℕ) → MayBecomeChunkLine bytes → NeverHasChunkLine (take n bytes) → ⊥
may_not n bytes m never =
    let same : take n bytes ++ (drop n bytes ++ m.0) ≡ bytes ++ m.0 = sym (append_assoc (take n bytes) (drop n bytes) m.0) ∙ ap (λ (t : List ℕ). t ++ m.0) (take-append-drop n bytes) in
    never (drop n bytes ++ m.0) m.1 [] (subst (λ t. ReadsChunkLine t m.1 []) (sym same) m.2)

-- nor does a front of bytes that may
front_not : (n j : ℕ) (bytes : List ℕ) → n ≤ j → MayBecomeChunkLine (take j bytes) → NeverHasChunkLine (take n bytes) → ⊥
front_not n j bytes h may never = may_not n (take j bytes) may (subst NeverHasChunkLine (sym (take-take n j bytes h)) never)

bad_lines : (bytes : List ℕ) (j k : ℕ) → BadLine bytes j → BadLine bytes k → j ≡ k
bad_lines bytes j k x y =
    elim (cases_lt j k) [
      | inl less ↦ absurd (front_not (j + 1) k bytes (omega (arith, less)) y.some x.none)
      | inr other ↦
          elim (cases_lt k j) [
            | inl more ↦ absurd (front_not (k + 1) j bytes (omega (arith, more)) x.some y.none)
            | inr same ↦ omega (arith, other, same)
          ]
    ]

no_line_one : (at : ℕ) (bytes : List ℕ) (e f : HttpFault) → NoLine at bytes e → NoLine at bytes f → e ≡ f
no_line_one at bytes e f (inl x) (inl y) = x.0 ∙ sym y.0
no_line_one at bytes e f (inl x) (inr (inl y)) = absurd (omega (arith, x.1.few, y.1.many))
no_line_one at bytes e f (inl x) (inr (inr y)) = absurd (may_not (y.0 + 1) bytes x.1.some y.2.none)
no_line_one at bytes e f (inr (inl x)) (inl y) = absurd (omega (arith, y.1.few, x.1.many))
no_line_one at bytes e f (inr (inl x)) (inr (inl y)) = x.0 ∙ sym y.0
no_line_one at bytes e f (inr (inl x)) (inr (inr y)) = absurd (front_not (y.0 + 1) MOST_LINE bytes (omega (arith, y.2.early)) x.1.some y.2.none)
no_line_one at bytes e f (inr (inr x)) (inl y) = absurd (may_not (x.0 + 1) bytes y.1.some x.2.none)
no_line_one at bytes e f (inr (inr x)) (inr (inl y)) = absurd (front_not (x.0 + 1) MOST_LINE bytes (omega (arith, x.2.early)) y.1.some x.2.none)
no_line_one at bytes e f (inr (inr x)) (inr (inr y)) = x.1 ∙ ap (λ k. BadBody (at + k)) (bad_lines bytes x.0 y.0 x.2 y.2) ∙ sym y.1

-- ---- behind a line

sizes_same : (a b : ChunkLine) (xs ys : List ℕ) → a ≡ b → length xs ≡ chunk_size a → length ys ≡ chunk_size b → length xs ≡ length ys
sizes_same a b xs ys same p q = p ∙ ap chunk_size same ∙ sym q

second_byte : (a b : ℕ) (xs ys : List ℕ) → ◌≡◌ {A = List ℕ} (13 ∷ a ∷ xs) (13 ∷ b ∷ ys) → ◌≡◌ {A = ℕ} a b
second_byte a b xs ys e = cc

not_large : (before : ℕ) (a b : ChunkLine) → a ≡ b → before + chunk_size a ≤ LONGEST_BODY → LONGEST_BODY < before + chunk_size b → ⊥
not_large before a b same few large = omega (arith, few, large, ap chunk_size same)

unclosed_bad : (before : ℕ) (bytes : List ℕ) (k : ℕ) → Unclosed before bytes → BadClose before bytes k → ⊥
unclosed_bad before bytes k x y =
    let lines = line_same bytes y.line x.line y.rest x.rest y.chunk.reads x.chunk.reads in
    let sizes = sizes_same y.line x.line y.content x.content lines.0 y.size x.size in
    elim y.is [
      | inl p ↦
          let whole : y.content ++ ((y.byte ∷ y.more) ++ x.more) ≡ x.content ++ 13 ∷ 10 ∷ [] =
          sym (append_assoc y.content (y.byte ∷ y.more) x.more) ∙ ap (λ (t : List ℕ). t ++ x.more) (sym p.0 ∙ lines.1) ∙ x.are in
          p.1 (first_byte y.byte 13 (y.more ++ x.more) (10 ∷ []) (cut_same y.content x.content ((y.byte ∷ y.more) ++ x.more) (13 ∷ 10 ∷ []) sizes whole).1)
      | inr p ↦
          let whole : y.content ++ ((13 ∷ y.byte ∷ y.more) ++ x.more) ≡ x.content ++ 13 ∷ 10 ∷ [] =
          sym (append_assoc y.content (13 ∷ y.byte ∷ y.more) x.more) ∙ ap (λ (t : List ℕ). t ++ x.more) (sym p.0 ∙ lines.1) ∙ x.are in
          p.1 (second_byte y.byte 10 (y.more ++ x.more) [] (cut_same y.content x.content ((13 ∷ y.byte ∷ y.more) ++ x.more) (13 ∷ 10 ∷ []) sizes whole).1)
    ]

unclosed_large : (before : ℕ) (bytes : List ℕ) → Unclosed before bytes → LargeChunk before bytes → ⊥
unclosed_large before bytes x y = not_large before x.line y.line (line_same bytes x.line y.line x.rest y.rest x.chunk.reads y.reads).0 x.chunk.few y.large

bad_large : (before : ℕ) (bytes : List ℕ) (k : ℕ) → BadClose before bytes k → LargeChunk before bytes → ⊥
bad_large before bytes k x y = not_large before x.line y.line (line_same bytes x.line y.line x.rest y.rest x.chunk.reads y.reads).0 x.chunk.few y.large

bad_closes : (before : ℕ) (bytes : List ℕ) (j k : ℕ) → BadClose before bytes j → BadClose before bytes k → j ≡ k
bad_closes before bytes j k x y =
    let lines = line_same bytes x.line y.line x.rest y.rest x.chunk.reads y.chunk.reads in
    let sizes = sizes_same x.line y.line x.content y.content lines.0 x.size y.size in
    let heads : length (print_chunk_line x.line) ≡ length (print_chunk_line y.line) = ap (λ (l : ChunkLine). length (print_chunk_line l)) lines.0 in
    elim x.is [
      | inl p ↦
          elim y.is [
            | inl q ↦ omega (arith, p.2, q.2, sizes, heads)
            | inr q ↦ absurd (p.1 (first_byte x.byte 13 x.more (y.byte ∷ y.more) (cut_same x.content y.content (x.byte ∷ x.more) (13 ∷ y.byte ∷ y.more) sizes (sym p.0 ∙ lines.1 ∙ q.0)).1))
          ]
      | inr p ↦
          elim y.is [
            | inl q ↦ absurd (q.1 (sym (first_byte 13 y.byte (x.byte ∷ x.more) y.more (cut_same x.content y.content (13 ∷ x.byte ∷ x.more) (y.byte ∷ y.more) sizes (sym p.0 ∙ lines.1 ∙ q.0)).1)))
            | inr q ↦ omega (arith, p.2, q.2, sizes, heads)
          ]
    ]

with_line_one : (at before : ℕ) (bytes : List ℕ) (e f : HttpFault) → WithLine at before bytes e → WithLine at before bytes f → e ≡ f
with_line_one at before bytes e f (inl x) (inl y) = x.0 ∙ sym y.0
with_line_one at before bytes e f (inl x) (inr (inl y)) = absurd (unclosed_large before bytes x.1 y.1)
with_line_one at before bytes e f (inl x) (inr (inr y)) = absurd (unclosed_bad before bytes y.0 x.1 y.2)
with_line_one at before bytes e f (inr (inl x)) (inl y) = absurd (unclosed_large before bytes y.1 x.1)
with_line_one at before bytes e f (inr (inl x)) (inr (inl y)) = x.0 ∙ sym y.0
with_line_one at before bytes e f (inr (inl x)) (inr (inr y)) = absurd (bad_large before bytes y.0 y.2 x.1)
with_line_one at before bytes e f (inr (inr x)) (inl y) = absurd (unclosed_bad before bytes x.0 y.1 x.2)
with_line_one at before bytes e f (inr (inr x)) (inr (inl y)) = absurd (bad_large before bytes x.0 x.2 y.1)
with_line_one at before bytes e f (inr (inr x)) (inr (inr y)) = x.1 ∙ ap (λ k. BadBody (at + k)) (bad_closes before bytes x.0 y.0 x.2 y.2) ∙ sym y.1

-- bytes that begin with a line have no fault of bytes without one
line_of : (at before : ℕ) (bytes : List ℕ) (f : HttpFault) → WithLine at before bytes f → (l : ChunkLine) × (rest : List ℕ) × Line bytes l rest
line_of at before bytes f (inl y) = (y.1.line, y.1.rest, y.1.chunk.reads)
line_of at before bytes f (inr (inl y)) = (y.1.line, y.1.rest, y.1.reads)
line_of at before bytes f (inr (inr y)) = (y.2.line, y.2.rest, y.2.chunk.reads)

line_no : (at : ℕ) (bytes : List ℕ) (e : HttpFault) (l : ChunkLine) (rest : List ℕ) → NoLine at bytes e → Line bytes l rest → ⊥
line_no at bytes e l rest (inl x) y = x.1.none l rest y.reads
line_no at bytes e l rest (inr (inl x)) y = no_front_line MOST_LINE bytes l rest y.short y.reads x.1.none
line_no at bytes e l rest (inr (inr x)) y =
    x.2.none (drop (x.0 + 1) bytes) l rest (subst (λ t. ReadsChunkLine t l rest) (sym (take-append-drop (x.0 + 1) bytes)) y.reads)

tails_one : (at before : ℕ) (bytes : List ℕ) (ended : Bool) (e f : HttpFault) → TailFault at before bytes ended e → TailFault at before bytes ended f → (IsOutside e ⊎ IsOutside f) ⊎ (e ≡ f)
tails_one at before bytes ended e f x y = by_why (tail_why at before bytes ended e x) (tail_why at before bytes ended f y) where
  by_why : IsOutside e ⊎ (NoLine at bytes e ⊎ WithLine at before bytes e) → IsOutside f ⊎ (NoLine at bytes f ⊎ WithLine at before bytes f) → (IsOutside e ⊎ IsOutside f) ⊎ (e ≡ f)
  by_why (inl o) q = inl (inl o)
  by_why (inr p) (inl o) = inl (inr o)
  by_why (inr (inl p)) (inr (inl q)) = inr (no_line_one at bytes e f p q)
  by_why (inr (inl p)) (inr (inr q)) = let l = line_of at before bytes f q in absurd (line_no at bytes e l.0 l.1 p l.2)
  by_why (inr (inr p)) (inr (inl q)) = let l = line_of at before bytes e p in absurd (line_no at bytes f l.0 l.1 q l.2)
  by_why (inr (inr p)) (inr (inr q)) = inr (with_line_one at before bytes e f p q)

-- ---- a chunked body

chunks_one : (first second before : ℕ) (bytes : List ℕ) (cs ds : List Chunk) (s t : List ℕ) (ended : Bool) (e f : HttpFault)
    → ReadsChunks bytes cs s → before + length (contents_of cs) ≤ LONGEST_BODY → TailFault first (before + length (contents_of cs)) s ended e
    → ReadsChunks bytes ds t → before + length (contents_of ds) ≤ LONGEST_BODY → TailFault second (before + length (contents_of ds)) t ended f
    → first + length s ≡ second + length t → (IsOutside e ⊎ IsOutside f) ⊎ (e ≡ f)
chunks_one first second before bytes [] [] s t ended e f x few h y less k place =
    let same : s ≡ t = sym x ∙ y in
    let start : first ≡ second = omega (arith, place, ap length same) in
    tails_one second (before + 0) t ended e f (subst (λ b. TailFault second (before + 0) b ended e) same (subst (λ n. TailFault n (before + 0) s ended e) start h)) k
chunks_one first second before bytes (c ∷ cs) [] s t ended e f x few h y less k place =
    inl (inr (tail_no_fault second before bytes c.line c.content x.0 ended f x.1.line x.1.size (omega (arith, few, length-append c.content (contents_of cs)))
    (subst (λ b. TailFault second before b ended f) (sym y) (subst (λ n. TailFault second n t ended f) (plus_none before) k))))
chunks_one first second before bytes [] (d ∷ ds) s t ended e f x few h y less k place =
    inl (inl (tail_no_fault first before bytes d.line d.content y.0 ended e y.1.line y.1.size (omega (arith, less, length-append d.content (contents_of ds)))
    (subst (λ b. TailFault first before b ended e) (sym x) (subst (λ n. TailFault first n s ended e) (plus_none before) h))))
chunks_one first second before bytes (c ∷ cs) (d ∷ ds) s t ended e f x few h y less k place =
    let one = chunk_same bytes c d x.0 y.0 x.1 y.1 in
    let p : before + length (c.content ++ contents_of cs) ≡ (before + length c.content) + length (contents_of cs) = omega (arith, length-append c.content (contents_of cs)) in
    let q : before + length (d.content ++ contents_of ds) ≡ (before + length c.content) + length (contents_of ds) = omega (arith, length-append d.content (contents_of ds), ap length one.0) in
    chunks_one first second (before + length c.content) x.0 cs ds s t ended e f x.2
    (omega (arith, few, p)) (subst (λ n. TailFault first n s ended e) p h)
    (subst (λ b. ReadsChunks b ds t) (sym one.1) y.2) (omega (arith, less, q)) (subst (λ n. TailFault second n t ended f) q k) place

chunked_one : (start : ℕ) (bytes : List ℕ) (ended : Bool) (e f : HttpFault) → ChunkedFault start bytes ended e → ChunkedFault start bytes ended f → (IsOutside e ⊎ IsOutside f) ⊎ (e ≡ f)
chunked_one start bytes ended e f x y =
    chunks_one x.at y.at 0 bytes x.chunks y.chunks x.tail y.tail ended e f
    x.front.reads (omega (arith, x.front.few)) (subst (λ n. TailFault x.at n x.tail ended e) (omega arith) x.is)
    y.front.reads (omega (arith, y.front.few)) (subst (λ n. TailFault y.at n y.tail ended f) (omega arith) y.is)
    (x.place ∙ sym y.place)

-- ---- bodies

-- the one fault of a body that is not chunked
abbrev sole : BodyPlan → ℕ → List ℕ → HttpFault
sole Empty start bytes = NoMemory
sole (Sized n) start bytes = Ended (start + length bytes)
sole Chunked start bytes = NoMemory
sole ToEnd start bytes = TooLarge
sole Bad start bytes = BadBody start
sole Huge start bytes = TooLarge

body_sole : (plan : BodyPlan) (start : ℕ) (bytes : List ℕ) (ended : Bool) (fault : HttpFault) → BodyFault plan start bytes ended fault → IsOutside fault ⊎ ((fault ≡ sole plan start bytes) ⊎ (plan ≡ Chunked))
body_sole plan start bytes ended LinkFault h = inl (inl refl)
body_sole plan start bytes ended NoMemory h = inl (inr refl)
body_sole Empty start bytes ended (Ended taken) h = absurd h
body_sole Empty start bytes ended BadHead h = absurd h
body_sole Empty start bytes ended TooLarge h = absurd h
body_sole Empty start bytes ended (BadBody place) h = absurd h
body_sole (Sized n) start bytes ended (Ended taken) h = inr (inl (ap Ended h.1))
body_sole (Sized n) start bytes ended BadHead h = absurd h
body_sole (Sized n) start bytes ended TooLarge h = absurd h
body_sole (Sized n) start bytes ended (BadBody place) h = absurd h
body_sole Chunked start bytes ended (Ended taken) h = inr (inr refl)
body_sole Chunked start bytes ended BadHead h = inr (inr refl)
body_sole Chunked start bytes ended TooLarge h = inr (inr refl)
body_sole Chunked start bytes ended (BadBody place) h = inr (inr refl)
body_sole ToEnd start bytes ended (Ended taken) h = absurd h
body_sole ToEnd start bytes ended BadHead h = absurd h
body_sole ToEnd start bytes ended TooLarge h = inr (inl refl)
body_sole ToEnd start bytes ended (BadBody place) h = absurd h
body_sole Bad start bytes ended (Ended taken) h = absurd h
body_sole Bad start bytes ended BadHead h = absurd h
body_sole Bad start bytes ended TooLarge h = absurd h
body_sole Bad start bytes ended (BadBody place) h = inr (inl (ap BadBody h))
body_sole Huge start bytes ended (Ended taken) h = absurd h
body_sole Huge start bytes ended BadHead h = absurd h
body_sole Huge start bytes ended TooLarge h = inr (inl refl)
body_sole Huge start bytes ended (BadBody place) h = absurd h

-- a fault of a chunked body, or one from outside
chunked_is : (start : ℕ) (bytes : List ℕ) (ended : Bool) (fault : HttpFault) → BodyFault Chunked start bytes ended fault → IsOutside fault ⊎ ChunkedFault start bytes ended fault
chunked_is start bytes ended LinkFault h = inl (inl refl)
chunked_is start bytes ended NoMemory h = inl (inr refl)
chunked_is start bytes ended (Ended taken) h = inr h
chunked_is start bytes ended BadHead h = inr h
chunked_is start bytes ended TooLarge h = inr h
chunked_is start bytes ended (BadBody place) h = inr h

chunked_body_one : (start : ℕ) (bytes : List ℕ) (ended : Bool) (e f : HttpFault) → BodyFault Chunked start bytes ended e → BodyFault Chunked start bytes ended f → (IsOutside e ⊎ IsOutside f) ⊎ (e ≡ f)
chunked_body_one start bytes ended e f x y =
    elim (chunked_is start bytes ended e x) [
      | inl o ↦ inl (inl o)
      | inr p ↦ elim (chunked_is start bytes ended f y) [ inl o ↦ inl (inr o) | inr q ↦ chunked_one start bytes ended e f p q ]
    ]

body_one : (plan : BodyPlan) (start : ℕ) (bytes : List ℕ) (ended : Bool) (e f : HttpFault) → BodyFault plan start bytes ended e → BodyFault plan start bytes ended f → (IsOutside e ⊎ IsOutside f) ⊎ (e ≡ f)
body_one plan start bytes ended e f x y =
    elim (body_sole plan start bytes ended e x) [
      | inl o ↦ inl (inl o)
      | inr (inr chunked) ↦ chunked_body_one start bytes ended e f (subst (λ p. BodyFault p start bytes ended e) chunked x) (subst (λ p. BodyFault p start bytes ended f) chunked y)
      | inr (inl p) ↦
          elim (body_sole plan start bytes ended f y) [
            | inl o ↦ inl (inr o)
            | inr (inr chunked) ↦ chunked_body_one start bytes ended e f (subst (λ p. BodyFault p start bytes ended e) chunked x) (subst (λ p. BodyFault p start bytes ended f) chunked y)
            | inr (inl q) ↦ inr (p ∙ sym q)
          ]
    ]

-- ---- the whole bytes

pub one_fault : OneFault
one_fault bytes ended e f (inl x) (inl y) =
    elim (head_why bytes ended e x) [
      | inl o ↦ inl (inl o)
      | inr p ↦ elim (head_why bytes ended f y) [ inl o ↦ inl (inr o) | inr q ↦ inr (heads_one bytes e f p q) ]
    ]
one_fault bytes ended e f (inl x) (inr y) = inl (inl (head_no_fault bytes y.head y.behind ended e y.reads x))
one_fault bytes ended e f (inr x) (inl y) = inl (inr (head_no_fault bytes x.head x.behind ended f x.reads y))
one_fault bytes ended e f (inr x) (inr y) =
    let heads = request_unique bytes x.head y.head x.behind y.behind x.reads.reads y.reads.reads in
    let Fault : RequestHead → List ℕ → HttpFault → Type 0 = λ h behind fault. BodyFault (plan_of (fields_of h.fields)) (length (print_request h)) behind ended fault in
    elim (body_one (plan_of (fields_of y.head.fields)) (length (print_request y.head)) y.behind ended e f (subst (λ h. Fault h y.behind e) heads.0 (subst (λ b. Fault x.head b e) heads.1 x.is)) y.is) [
      | inl o ↦ inl o
      | inr same ↦ inr (inl same)
    ]
