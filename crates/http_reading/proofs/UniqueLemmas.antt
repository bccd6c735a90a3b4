-- Bytes begin with at most one body of a plan, and one that they begin with has no fault.
use Rattle.std.proofs.Common.{◌≡◌, ℕ, ◌+◌, ◌-◌, ◌≤◌, Bool, false, List, [], ◌∷◌, ◌++◌, length, take, drop, refl, sym, ap, ◌∙◌, subst, arith, length-append, take-append-drop, inl, inr}
use Rattle.std.proofs.Math.Seq.{take-append-add}
use Rattle.httparse.specs.Grammar.{ChunkLine, print_chunk_line, chunk_size, ReadsChunkLine, HasNoChunkLine}
use Rattle.httparse.proofs.ChunkLemmas.{chunk_line_unique}
use Rattle.http_reading.specs.Draws.{IsOutside}
use Rattle.http_reading.specs.declared.plan.TheConstants.{MOST_LINE}
use Rattle.http_reading.specs.Chunks.{Chunk, Line, ReadsChunk, ReadsChunks, contents_of, ReadsChunked, TailFault, ChunkedFault}
use Rattle.http_reading.specs.Bodies.{ReadsBody, BodyFault}
use Rattle.http_reading.specs.declared.plan.BodyPlan.{BodyPlan}
use Rattle.http_reading.specs.declared.plan.BodyPlan.TheVariants.{Empty, Sized, Chunked, ToEnd, Bad, TooLarge as Huge}
use Rattle.http_reading.specs.declared.fault.HttpFault.{HttpFault}
use Rattle.http_reading.specs.declared.fault.HttpFault.TheVariants.{Ended, BadHead, TooLarge, BadBody, LinkFault, NoMemory}

-- equal lists, cut at the same length
pub cut_same : (xs ys us vs : List ℕ) → length xs ≡ length ys → xs ++ us ≡ ys ++ vs → (xs ≡ ys) × (us ≡ vs)
cut_same [] [] us vs size e = (refl, e)
cut_same [] (y ∷ ys) us vs size e = absurd (omega arith)
cut_same (x ∷ xs) [] us vs size e = absurd (omega arith)
cut_same (x ∷ xs) (y ∷ ys) us vs size e =
    let rest = cut_same xs ys us vs (omega arith) (cc) in (cc, rest.1)

-- the first n bytes, where what is in front is shorter
pub take_past : (n : ℕ) (xs ys : List ℕ) → length xs ≤ n → take n (xs ++ ys) ≡ xs ++ take (n - length xs) ys
take_past n xs ys short =
    let many : n ≡ length xs + (n - length xs) = omega arith in
    ap (λ (k : ℕ). take k (xs ++ ys)) many ∙ take-append-add xs ys (n - length xs)

-- ---- chunks

pub line_same : (bytes : List ℕ) (l k : ChunkLine) (r q : List ℕ) → Line bytes l r → Line bytes k q → (l ≡ k) × (r ≡ q)
line_same bytes l k r q x y = chunk_line_unique bytes l k r q x.reads y.reads

pub chunk_same : (bytes : List ℕ) (c d : Chunk) (m n : List ℕ) → ReadsChunk bytes c m → ReadsChunk bytes d n → (c.content ≡ d.content) × (m ≡ n)
chunk_same bytes c d m n x y =
    let lines = line_same bytes c.line d.line (c.content ++ 13 ∷ 10 ∷ m) (d.content ++ 13 ∷ 10 ∷ n) x.line y.line in
    let parts = cut_same c.content d.content (13 ∷ 10 ∷ m) (13 ∷ 10 ∷ n) (sym x.size ∙ ap chunk_size lines.0 ∙ y.size) lines.1 in
    (parts.0, two parts.1)
  where
    two : {m n : List ℕ} → ◌≡◌ {A = List ℕ} (13 ∷ 10 ∷ m) (13 ∷ 10 ∷ n) → m ≡ n
    two e = cc

last_no_chunk : (bytes : List ℕ) (l : ChunkLine) (r : List ℕ) (d : Chunk) (m : List ℕ) → Line bytes l r → chunk_size l ≡ 0 → ReadsChunk bytes d m → ⊥
last_no_chunk bytes l r d m x zero y =
    let lines = line_same bytes l d.line r (d.content ++ 13 ∷ 10 ∷ m) x y.line in
    omega (arith, zero, ap chunk_size lines.0, y.size, y.some)

chunks_same : (bytes : List ℕ) (cs ds : List Chunk) (s t : List ℕ) (l k : ChunkLine) (r q : List ℕ)
    → ReadsChunks bytes cs s → Line s l (13 ∷ 10 ∷ r) → chunk_size l ≡ 0
    → ReadsChunks bytes ds t → Line t k (13 ∷ 10 ∷ q) → chunk_size k ≡ 0 → (contents_of cs ≡ contents_of ds) × (r ≡ q)
chunks_same bytes [] [] s t l k r q x xl xz y yl yz =
    let lines = line_same bytes l k (13 ∷ 10 ∷ r) (13 ∷ 10 ∷ q) (subst (λ b. Line b l (13 ∷ 10 ∷ r)) (sym x) xl) (subst (λ b. Line b k (13 ∷ 10 ∷ q)) (sym y) yl) in
    (refl, two lines.1)
  where
    two : {m n : List ℕ} → ◌≡◌ {A = List ℕ} (13 ∷ 10 ∷ m) (13 ∷ 10 ∷ n) → m ≡ n
    two e = cc
chunks_same bytes [] (d ∷ ds) s t l k r q x xl xz y yl yz =
    absurd (last_no_chunk bytes l (13 ∷ 10 ∷ r) d y.0 (subst (λ b. Line b l (13 ∷ 10 ∷ r)) (sym x) xl) xz y.1)
chunks_same bytes (c ∷ cs) [] s t l k r q x xl xz y yl yz =
    absurd (last_no_chunk bytes k (13 ∷ 10 ∷ q) c x.0 (subst (λ b. Line b k (13 ∷ 10 ∷ q)) (sym y) yl) yz x.1)
chunks_same bytes (c ∷ cs) (d ∷ ds) s t l k r q x xl xz y yl yz =
    let one = chunk_same bytes c d x.0 y.0 x.1 y.1 in
    let rest = chunks_same x.0 cs ds s t l k r q x.2 xl xz (subst (λ b. ReadsChunks b ds t) (sym one.1) y.2) yl yz in
    (ap (λ (u : List ℕ). u ++ contents_of cs) one.0 ∙ ap (λ (u : List ℕ). d.content ++ u) rest.0, rest.1)

chunked_same : (bytes b c r q : List ℕ) → ReadsChunked bytes b r → ReadsChunked bytes c q → (b ≡ c) × (r ≡ q)
chunked_same bytes b c r q x y =
    let same = chunks_same bytes x.chunks y.chunks x.tail y.tail x.last y.last r q x.front.reads x.line x.zero y.front.reads y.line y.zero in
    (x.are ∙ same.0 ∙ sym y.are, same.1)

-- ---- bodies

pub body_same : (plan : BodyPlan) (bytes : List ℕ) (ended : Bool) (b c r q : List ℕ) → ReadsBody plan bytes ended b r → ReadsBody plan bytes ended c q → (b ≡ c) × (r ≡ q)
body_same Empty bytes ended b c r q x y = (x.0 ∙ sym y.0, sym x.1 ∙ y.1)
body_same (Sized n) bytes ended b c r q x y = cut_same b c r q (x.0 ∙ sym y.0) (sym x.1 ∙ y.1)
body_same Chunked bytes ended b c r q x y = chunked_same bytes b c r q x y
body_same ToEnd bytes ended b c r q x y = (sym x.2 ∙ y.2, x.3 ∙ sym y.3)
body_same Bad bytes ended b c r q x y = absurd x
body_same Huge bytes ended b c r q x y = absurd x

-- ---- no fault

pub no_front_line : (n : ℕ) (bytes : List ℕ) (l : ChunkLine) (r : List ℕ) → length (print_chunk_line l) ≤ n → ReadsChunkLine bytes l r → HasNoChunkLine (take n bytes) → ⊥
no_front_line n bytes l r short x none =
    none l (take (n - length (print_chunk_line l)) r) (x.0, ap (take n) x.1 ∙ take_past n (print_chunk_line l) r short)

pub first_byte : (a b : ℕ) (xs ys : List ℕ) → a ∷ xs ≡ b ∷ ys → a ≡ b
first_byte a b xs ys e = cc

pub tail_no_fault : (at before : ℕ) (bytes : List ℕ) (l : ChunkLine) (content more : List ℕ) (ended : Bool) (fault : HttpFault)
    → Line bytes l (content ++ 13 ∷ 10 ∷ more) → chunk_size l ≡ length content → before + length content ≤ 1048576
    → TailFault at before bytes ended fault → IsOutside fault
tail_no_fault at before bytes l content more ended (Ended taken) x size few (end, is, inl h) = absurd (h.none l (content ++ 13 ∷ 10 ∷ more) x.reads)
tail_no_fault at before bytes l content more ended (Ended taken) x size few (end, is, inr h) =
    let lines = line_same bytes l h.line (content ++ 13 ∷ 10 ∷ more) h.rest x h.chunk.reads in
    absurd (omega (
      arith,
      size,
      ap chunk_size lines.0,
      h.size,
      h.some,
      ap length h.are,
      ap length lines.1,
      length-append h.rest h.more,
      length-append h.content (13 ∷ 10 ∷ []),
      length-append content (13 ∷ 10 ∷ more),
    ))
tail_no_fault at before bytes l content more ended BadHead x size few h = absurd h
tail_no_fault at before bytes l content more ended TooLarge x size few (inl h) = absurd (no_front_line MOST_LINE bytes l (content ++ 13 ∷ 10 ∷ more) x.short x.reads h.none)
tail_no_fault at before bytes l content more ended TooLarge x size few (inr h) =
    let lines = line_same bytes l h.line (content ++ 13 ∷ 10 ∷ more) h.rest x h.reads in
    absurd (omega (arith, size, few, h.large, ap chunk_size lines.0))
tail_no_fault at before bytes l content more ended (BadBody place) x size few (k, is, inl h) =
    absurd (h.none (drop (k + 1) bytes) l (content ++ 13 ∷ 10 ∷ more)
    (subst (λ t. ReadsChunkLine t l (content ++ 13 ∷ 10 ∷ more)) (sym (take-append-drop (k + 1) bytes)) x.reads))
tail_no_fault at before bytes l content more ended (BadBody place) x size few (k, is, inr h) =
    let lines = line_same bytes l h.line (content ++ 13 ∷ 10 ∷ more) h.rest x h.chunk.reads in
    let sizes : length content ≡ length h.content = sym size ∙ ap chunk_size lines.0 ∙ sym h.size in
    elim h.is [
      | inl e ↦
          let parts = cut_same content h.content (13 ∷ 10 ∷ more) (h.byte ∷ h.more) sizes (lines.1 ∙ e.0) in
          absurd (e.1 (sym (first_byte 13 h.byte (10 ∷ more) h.more parts.1)))
      | inr e ↦
          let parts = cut_same content h.content (13 ∷ 10 ∷ more) (13 ∷ h.byte ∷ h.more) sizes (lines.1 ∙ e.0) in
          absurd (e.1 (sym (second_byte h.byte more h.more parts.1)))
    ]
  where
    second_byte : (b : ℕ) (xs ys : List ℕ) → ◌≡◌ {A = List ℕ} (13 ∷ 10 ∷ xs) (13 ∷ b ∷ ys) → ◌≡◌ {A = ℕ} 10 b
    second_byte b xs ys e = cc
tail_no_fault at before bytes l content more ended LinkFault x size few h = inl refl
tail_no_fault at before bytes l content more ended NoMemory x size few h = inr refl

pub plus_none : (n : ℕ) → n + 0 ≡ n
plus_none n = omega arith

chunks_no_fault : (at before : ℕ) (bytes : List ℕ) (cs ds : List Chunk) (s t : List ℕ) (l : ChunkLine) (r : List ℕ) (ended : Bool) (fault : HttpFault)
    → ReadsChunks bytes cs s → Line s l (13 ∷ 10 ∷ r) → chunk_size l ≡ 0 → before + length (contents_of cs) ≤ 1048576
    → ReadsChunks bytes ds t → TailFault at (before + length (contents_of ds)) t ended fault → IsOutside fault
chunks_no_fault at before bytes [] [] s t l r ended fault x xl xz few y h =
    tail_no_fault at before bytes l [] r ended fault (subst (λ b. Line b l (13 ∷ 10 ∷ r)) (sym x) xl) xz few
    (subst (λ b. TailFault at before b ended fault) (sym y) (subst (λ n. TailFault at n t ended fault) (plus_none before) h))
chunks_no_fault at before bytes (c ∷ cs) [] s t l r ended fault x xl xz few y h =
    tail_no_fault at before bytes c.line c.content x.0 ended fault x.1.line x.1.size (omega (arith, few, length-append c.content (contents_of cs)))
    (subst (λ b. TailFault at before b ended fault) (sym y) (subst (λ n. TailFault at n t ended fault) (plus_none before) h))
chunks_no_fault at before bytes [] (d ∷ ds) s t l r ended fault x xl xz few y h =
    absurd (last_no_chunk bytes l (13 ∷ 10 ∷ r) d y.0 (subst (λ b. Line b l (13 ∷ 10 ∷ r)) (sym x) xl) xz y.1)
chunks_no_fault at before bytes (c ∷ cs) (d ∷ ds) s t l r ended fault x xl xz few y h =
    let one = chunk_same bytes c d x.0 y.0 x.1 y.1 in
    let sum : before + length (d.content ++ contents_of ds) ≡ (before + length d.content) + length (contents_of ds) = omega (arith, length-append d.content (contents_of ds)) in
    chunks_no_fault at (before + length d.content) x.0 cs ds s t l r ended fault x.2 xl xz
    (omega (arith, few, length-append c.content (contents_of cs), ap length one.0))
    (subst (λ b. ReadsChunks b ds t) (sym one.1) y.2)
    (subst (λ n. TailFault at n t ended fault) sum h)

chunked_no_fault : (start : ℕ) (bytes body rest : List ℕ) (ended : Bool) (fault : HttpFault) → ReadsChunked bytes body rest → ChunkedFault start bytes ended fault → IsOutside fault
chunked_no_fault start bytes body rest ended fault x h =
    chunks_no_fault h.at 0 bytes x.chunks h.chunks x.tail h.tail x.last rest ended fault x.front.reads x.line x.zero (omega (arith, x.front.few)) h.front.reads
    (subst (λ n. TailFault h.at n h.tail ended fault) (omega arith) h.is)

pub body_no_fault : (plan : BodyPlan) (start : ℕ) (bytes body rest : List ℕ) (ended : Bool) (fault : HttpFault)
    → ReadsBody plan bytes false body rest → BodyFault plan start bytes ended fault → IsOutside fault
body_no_fault plan start bytes body rest ended LinkFault x h = inl refl
body_no_fault plan start bytes body rest ended NoMemory x h = inr refl
body_no_fault Empty start bytes body rest ended (Ended taken) x h = absurd h
body_no_fault Empty start bytes body rest ended BadHead x h = absurd h
body_no_fault Empty start bytes body rest ended TooLarge x h = absurd h
body_no_fault Empty start bytes body rest ended (BadBody place) x h = absurd h
body_no_fault (Sized n) start bytes body rest ended (Ended taken) x h = absurd (omega (arith, x.0, ap length x.1, length-append body rest, h.2))
body_no_fault (Sized n) start bytes body rest ended BadHead x h = absurd h
body_no_fault (Sized n) start bytes body rest ended TooLarge x h = absurd h
body_no_fault (Sized n) start bytes body rest ended (BadBody place) x h = absurd h
body_no_fault Chunked start bytes body rest ended (Ended taken) x h = chunked_no_fault start bytes body rest ended (Ended taken) x h
body_no_fault Chunked start bytes body rest ended BadHead x h = chunked_no_fault start bytes body rest ended BadHead x h
body_no_fault Chunked start bytes body rest ended TooLarge x h = chunked_no_fault start bytes body rest ended TooLarge x h
body_no_fault Chunked start bytes body rest ended (BadBody place) x h = chunked_no_fault start bytes body rest ended (BadBody place) x h
body_no_fault ToEnd start bytes body rest ended (Ended taken) x h = absurd h
body_no_fault ToEnd start bytes body rest ended BadHead x h = absurd h
body_no_fault ToEnd start bytes body rest ended TooLarge x h = let never : ⊥ = cc (x.0) in absurd never
body_no_fault ToEnd start bytes body rest ended (BadBody place) x h = absurd h
body_no_fault Bad start bytes body rest ended (Ended taken) x h = absurd x
body_no_fault Bad start bytes body rest ended BadHead x h = absurd x
body_no_fault Bad start bytes body rest ended TooLarge x h = absurd x
body_no_fault Bad start bytes body rest ended (BadBody place) x h = absurd x
body_no_fault Huge start bytes body rest ended (Ended taken) x h = absurd x
body_no_fault Huge start bytes body rest ended BadHead x h = absurd x
body_no_fault Huge start bytes body rest ended TooLarge x h = absurd x
body_no_fault Huge start bytes body rest ended (BadBody place) x h = absurd x
