-- More bytes behind those that were read change neither a message at their front nor its fault.
use Rattle.std.proofs.Common.{◌≡◌, ℕ, ◌+◌, ◌-◌, Bool, true, false, List, [], ◌∷◌, ◌++◌, length, take, sym, ap, ◌∙◌, subst, arith, append_assoc, append-nil, length-append, inl, inr}
use Rattle.std.proofs.lemmas.List.{take-append-le, take_all}
use Rattle.std.proofs.lemmas.Bool.{cases_lt}
use Rattle.std.proofs.Math.Seq.{take-append-add}
use Rattle.httparse.specs.Grammar.{ChunkLine, RequestHead, HasNoChunkLine, MayBecomeChunkLine, NeverHasChunkLine, ReadsRequest, NeverHasRequest, HasNoRequest, MayBecomeRequest}
use Rattle.httparse.specs.Spans.{RequestOverflows, RequestExceeds}
use Rattle.httparse.proofs.GrammarLemmas.{ReadsRequest-append}
use Rattle.httparse.proofs.ChunkLemmas.{ReadsChunkLine-append}
use Rattle.http_reading.specs.declared.plan.TheConstants.{MOST_LINE}
use Rattle.http_reading.specs.Chunks.{Chunk, Line, ReadsChunk, ReadsChunks, Front, ReadsChunked, LongLine, BadLine, OpenChunk, BadClose, LargeChunk, TailFault, ChunkedFault, contents_of}
use Rattle.http_reading.specs.Bodies.{ReadsBody, BodyFault}
use Rattle.http_reading.specs.Requests.{ReadsHead, Reads, HeadFault, HasFault}
use Rattle.http_reading.specs.declared.request.Request.{Request}
use Rattle.http_reading.specs.declared.plan.BodyPlan.{BodyPlan}
use Rattle.http_reading.specs.declared.plan.BodyPlan.TheVariants.{Empty, Sized, Chunked, ToEnd, Bad, TooLarge as Huge}
use Rattle.http_reading.specs.declared.fault.HttpFault.{HttpFault}
use Rattle.http_reading.specs.declared.fault.HttpFault.TheVariants.{Ended, BadHead, TooLarge, BadBody, LinkFault, NoMemory}

not_so : {A : Type 0} → ◌≡◌ {A = Bool} false true → A
not_so e = let never : ⊥ = cc in absurd never

-- the first n of more bytes: the first n, and then some more
take_front : (n : ℕ) (xs ys : List ℕ) → (zs : List ℕ) × (take n (xs ++ ys) ≡ take n xs ++ zs)
take_front n xs ys =
    elim (cases_lt (length xs) n) [
      | inl past ↦
          let many : n ≡ length xs + (n - length xs) = omega arith in (
            take (n - length xs) ys,
            ap (λ (k : ℕ). take k (xs ++ ys)) many ∙ take-append-add xs ys (n - length xs)
                ∙ ap (λ (t : List ℕ). t ++ take (n - length xs) ys) (sym (take_all n xs (omega arith))),
          )
      | inr within ↦ ([], take-append-le n xs ys within ∙ sym (append-nil (take n xs)))
    ]

-- ---- chunks

pub Line-append : (bytes : List ℕ) (line : ChunkLine) (rest more : List ℕ) → Line bytes line rest → Line (bytes ++ more) line (rest ++ more)
Line-append bytes line rest more h = record { reads = ReadsChunkLine-append bytes line rest more h.reads; short = h.short }

pub ReadsChunk-append : (bytes : List ℕ) (chunk : Chunk) (rest more : List ℕ) → ReadsChunk bytes chunk rest → ReadsChunk (bytes ++ more) chunk (rest ++ more)
ReadsChunk-append bytes chunk rest more h = record {
  line = subst (Line (bytes ++ more) chunk.line) (append_assoc chunk.content (13 ∷ 10 ∷ rest) more)
      (Line-append bytes chunk.line (chunk.content ++ 13 ∷ 10 ∷ rest) more h.line);
  size = h.size;
  some = h.some;
}

pub ReadsChunks-append : (bytes : List ℕ) (chunks : List Chunk) (rest more : List ℕ) → ReadsChunks bytes chunks rest → ReadsChunks (bytes ++ more) chunks (rest ++ more)
ReadsChunks-append bytes [] rest more h = ap (λ (t : List ℕ). t ++ more) h
ReadsChunks-append bytes (chunk ∷ chunks) rest more h =
    (h.0 ++ more, ReadsChunk-append bytes chunk h.0 more h.1, ReadsChunks-append h.0 chunks rest more h.2)

pub Front-append : (bytes : List ℕ) (chunks : List Chunk) (rest more : List ℕ) → Front bytes chunks rest → Front (bytes ++ more) chunks (rest ++ more)
Front-append bytes chunks rest more h = record { reads = ReadsChunks-append bytes chunks rest more h.reads; few = h.few }

pub ReadsChunked-append : (bytes body rest more : List ℕ) → ReadsChunked bytes body rest → ReadsChunked (bytes ++ more) body (rest ++ more)
ReadsChunked-append bytes body rest more h = record {
  chunks = h.chunks;
  tail = h.tail ++ more;
  front = Front-append bytes h.chunks h.tail more h.front;
  last = h.last;
  line = Line-append h.tail h.last (13 ∷ 10 ∷ rest) more h.line;
  zero = h.zero;
  are = h.are;
}

OpenChunk-append : (before : ℕ) (bytes : List ℕ) (line : ChunkLine) (rest more : List ℕ) → OpenChunk before bytes line rest → OpenChunk before (bytes ++ more) line (rest ++ more)
OpenChunk-append before bytes line rest more h = record { reads = Line-append bytes line rest more h.reads; few = h.few }

BadLine-append : (bytes : List ℕ) (place : ℕ) (more : List ℕ) → BadLine bytes place → BadLine (bytes ++ more) place
BadLine-append bytes place more h = record {
  inside = omega (arith, h.inside, length-append bytes more);
  early = h.early;
  some = subst MayBecomeChunkLine (sym (take-append-le place bytes more (omega (arith, h.inside)))) h.some;
  none = subst NeverHasChunkLine (sym (take-append-le (place + 1) bytes more (omega (arith, h.inside)))) h.none;
}

LongLine-append : (bytes more : List ℕ) → LongLine bytes → LongLine (bytes ++ more)
LongLine-append bytes more h =
    let same = sym (take-append-le MOST_LINE bytes more h.many) in
    record {
      many = omega (arith, h.many, length-append bytes more);
      none = subst HasNoChunkLine same h.none;
      some = subst MayBecomeChunkLine same h.some;
    }

BadClose-append : (before : ℕ) (bytes : List ℕ) (place : ℕ) (more : List ℕ) → BadClose before bytes place → BadClose before (bytes ++ more) place
BadClose-append before bytes place more h = record {
  line = h.line;
  rest = h.rest ++ more;
  chunk = OpenChunk-append before bytes h.line h.rest more h.chunk;
  content = h.content;
  byte = h.byte;
  more = h.more ++ more;
  size = h.size;
  is = elim h.is [
    | inl e ↦ inl (ap (λ (t : List ℕ). t ++ more) e.0 ∙ append_assoc h.content (h.byte ∷ h.more) more, e.1, e.2)
    | inr e ↦ inr (ap (λ (t : List ℕ). t ++ more) e.0 ∙ append_assoc h.content (13 ∷ h.byte ∷ h.more) more, e.1, e.2)
  ];
}

LargeChunk-append : (before : ℕ) (bytes more : List ℕ) → LargeChunk before bytes → LargeChunk before (bytes ++ more)
LargeChunk-append before bytes more h =
    record { line = h.line; rest = h.rest ++ more; reads = Line-append bytes h.line h.rest more h.reads; large = h.large }

TailFault-append : (at before : ℕ) (bytes more : List ℕ) (fault : HttpFault) → TailFault at before bytes false fault → TailFault at before (bytes ++ more) true fault
TailFault-append at before bytes more (Ended taken) h = not_so h.0
TailFault-append at before bytes more BadHead h = h
TailFault-append at before bytes more TooLarge (inl h) = inl (LongLine-append bytes more h)
TailFault-append at before bytes more TooLarge (inr h) = inr (LargeChunk-append before bytes more h)
TailFault-append at before bytes more (BadBody place) h =
    (h.0, h.1, elim h.2 [ inl e ↦ inl (BadLine-append bytes h.0 more e) | inr e ↦ inr (BadClose-append before bytes h.0 more e) ])
TailFault-append at before bytes more LinkFault h = h
TailFault-append at before bytes more NoMemory h = h

ChunkedFault-append : (start : ℕ) (bytes more : List ℕ) (fault : HttpFault) → ChunkedFault start bytes false fault → ChunkedFault start (bytes ++ more) true fault
ChunkedFault-append start bytes more fault h = record {
  chunks = h.chunks;
  tail = h.tail ++ more;
  front = Front-append bytes h.chunks h.tail more h.front;
  at = h.at;
  place = omega (arith, h.place, length-append bytes more, length-append h.tail more);
  is = TailFault-append h.at (length (contents_of h.chunks)) h.tail more fault h.is;
}

-- ---- bodies

pub ReadsBody-append : (plan : BodyPlan) (bytes body rest more : List ℕ) → ReadsBody plan bytes false body rest → ReadsBody plan (bytes ++ more) false body (rest ++ more)
ReadsBody-append Empty bytes body rest more h = (h.0, ap (λ (t : List ℕ). t ++ more) h.1)
ReadsBody-append (Sized n) bytes body rest more h = (h.0, ap (λ (t : List ℕ). t ++ more) h.1 ∙ append_assoc body rest more)
ReadsBody-append Chunked bytes body rest more h = ReadsChunked-append bytes body rest more h
ReadsBody-append ToEnd bytes body rest more h = not_so h.0
ReadsBody-append Bad bytes body rest more h = h
ReadsBody-append Huge bytes body rest more h = h

pub BodyFault-append : (plan : BodyPlan) (start : ℕ) (bytes more : List ℕ) (fault : HttpFault) → BodyFault plan start bytes false fault → BodyFault plan start (bytes ++ more) true fault
BodyFault-append plan start bytes more LinkFault h = tt
BodyFault-append plan start bytes more NoMemory h = tt
BodyFault-append Empty start bytes more (Ended taken) h = h
BodyFault-append Empty start bytes more BadHead h = h
BodyFault-append Empty start bytes more TooLarge h = h
BodyFault-append Empty start bytes more (BadBody place) h = h
BodyFault-append (Sized n) start bytes more (Ended taken) h = not_so h.0
BodyFault-append (Sized n) start bytes more BadHead h = h
BodyFault-append (Sized n) start bytes more TooLarge h = h
BodyFault-append (Sized n) start bytes more (BadBody place) h = h
BodyFault-append Chunked start bytes more (Ended taken) h = ChunkedFault-append start bytes more (Ended taken) h
BodyFault-append Chunked start bytes more BadHead h = ChunkedFault-append start bytes more BadHead h
BodyFault-append Chunked start bytes more TooLarge h = ChunkedFault-append start bytes more TooLarge h
BodyFault-append Chunked start bytes more (BadBody place) h = ChunkedFault-append start bytes more (BadBody place) h
BodyFault-append ToEnd start bytes more (Ended taken) h = h
BodyFault-append ToEnd start bytes more BadHead h = h
BodyFault-append ToEnd start bytes more TooLarge h = omega (arith, length-append bytes more)
BodyFault-append ToEnd start bytes more (BadBody place) h = h
BodyFault-append Bad start bytes more (Ended taken) h = h
BodyFault-append Bad start bytes more BadHead h = h
BodyFault-append Bad start bytes more TooLarge h = h
BodyFault-append Bad start bytes more (BadBody place) h = h
BodyFault-append Huge start bytes more (Ended taken) h = h
BodyFault-append Huge start bytes more BadHead h = h
BodyFault-append Huge start bytes more TooLarge h = tt
BodyFault-append Huge start bytes more (BadBody place) h = h

-- ---- requests

pub ReadsHead-append : (bytes : List ℕ) (more : List ℕ) (h : RequestHead) (behind : List ℕ) → ReadsHead bytes h behind → ReadsHead (bytes ++ more) h (behind ++ more)
ReadsHead-append bytes more h behind r =
    record { reads = ReadsRequest-append bytes h behind more r.reads; short = r.short; few = r.few }

pub Reads-append : (bytes : List ℕ) (request : Request) (rest more : List ℕ) → Reads bytes request rest → Reads (bytes ++ more) request (rest ++ more)
Reads-append bytes request rest more r = record {
  head = r.head;
  behind = r.behind ++ more;
  reads = ReadsHead-append bytes more r.head r.behind r.reads;
  body = ReadsBody-append _ r.behind request.body rest more r.body;
  method = r.method;
  path = r.path;
  token = r.token;
  close = r.close;
}

NeverHasRequest-append : (xs zs : List ℕ) → NeverHasRequest xs → NeverHasRequest (xs ++ zs)
NeverHasRequest-append xs zs never more = subst HasNoRequest (sym (append_assoc xs zs more)) (never (zs ++ more))

RequestExceeds-append : (room : ℕ) (xs zs : List ℕ) → RequestExceeds room xs → RequestExceeds room (xs ++ zs)
RequestExceeds-append room xs zs h =
    (h.0, h.1 ++ zs, ap (λ (t : List ℕ). t ++ zs) h.2 ∙ append_assoc h.0 h.1 zs, h.3, h.4, h.5)

RequestOverflows-append : (room : ℕ) (xs zs : List ℕ) → RequestOverflows room xs → RequestOverflows room (xs ++ zs)
RequestOverflows-append room xs zs h more head rest reads =
    h (zs ++ more) head rest (subst (λ t. ReadsRequest t head rest) (append_assoc xs zs more) reads)

HeadFault-append : (bytes more : List ℕ) (fault : HttpFault) → HeadFault bytes false fault → HeadFault (bytes ++ more) true fault
HeadFault-append bytes more (Ended taken) h = not_so h.0
HeadFault-append bytes more BadHead h =
    let front = take_front MOST_LINE bytes more in
    subst NeverHasRequest (sym front.1) (NeverHasRequest-append (take MOST_LINE bytes) front.0 h)
HeadFault-append bytes more TooLarge (inl h) =
    let same = sym (take-append-le MOST_LINE bytes more h.many) in
    inl (record {
      many = omega (arith, h.many, length-append bytes more);
      none = subst HasNoRequest same h.none;
      some = subst MayBecomeRequest same h.some;
    })
HeadFault-append bytes more TooLarge (inr h) =
    let front = take_front MOST_LINE bytes more in
    inr (record {
      some = subst (RequestExceeds 64) (sym front.1) (RequestExceeds-append 64 (take MOST_LINE bytes) front.0 h.some);
      none = subst (RequestOverflows 64) (sym front.1) (RequestOverflows-append 64 (take MOST_LINE bytes) front.0 h.none);
    })
HeadFault-append bytes more (BadBody place) h = h
HeadFault-append bytes more LinkFault h = h
HeadFault-append bytes more NoMemory h = h

pub HasFault-append : (bytes more : List ℕ) (fault : HttpFault) → HasFault bytes false fault → HasFault (bytes ++ more) true fault
HasFault-append bytes more fault (inl h) = inl (HeadFault-append bytes more fault h)
HasFault-append bytes more fault (inr h) = inr (record {
  head = h.head;
  behind = h.behind ++ more;
  reads = ReadsHead-append bytes more h.head h.behind h.reads;
  is = BodyFault-append _ _ h.behind more fault h.is;
})
