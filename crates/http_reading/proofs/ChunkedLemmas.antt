-- Chunks, one after another, up to the last or to a fault.
use Rattle.std.proofs.Common.{◌≡◌, ℕ, ◌<◌, ◌≤◌, Bool, true, false, List, [], ◌∷◌, ◌++◌, length, drop, refl, sym, ap, ◌∙◌, subst, arith, append_assoc, append-nil, length-append, length-drop, Option}
use Rattle.std.proofs.lemmas.List.{drop-append-le}
use Rattle.http_reading.specs.Draws.{Draws, Fails}
use Rattle.http_reading.specs.Chunks.{Chunk, ReadsChunk, ReadsChunks, contents_of, Front, TailFault, ChunkedFault}
use Rattle.http_reading.specs.ChunkReads.{ReadsOne, ChunkRead, ChunkFault}
use Rattle.http_reading.specs.Bodies.{BodyFault}
use Rattle.http_reading.specs.BodyReads.{BodyRead, Behind}
use Rattle.http_reading.specs.declared.plan.BodyPlan.TheVariants.{Chunked}
use Rattle.http_reading.specs.declared.fault.HttpFault.{HttpFault}
use Rattle.http_reading.specs.declared.fault.HttpFault.TheVariants.{Ended, BadHead, TooLarge, BadBody, LinkFault, NoMemory}
use Rattle.http_reading.specs.declared.chunks.ReadTo.{ReadTo}
use Rattle.http_reading.proofs.DrawLemmas.{draws_more, fails_grown}
use Rattle.http_reading.proofs.GrowLemmas.{Front-append}

-- whole chunks stand from `start` up to `at`, and the body is their content
pub record SoFar {A : Type 0} (left seen taken : A → Option (List ℕ)) (met : A → Bool) (dial faults : A → ℕ)
    (before now : A) (held holds : List ℕ) (start at : ℕ) (body : List ℕ) : Type 0 where
  pub draws : Draws left seen taken met dial faults before now held holds false
  pub chunks : List Chunk
  pub front : Front (drop start holds) chunks (drop at holds)
  pub are : contents_of chunks ≡ body
  pub from : start ≤ length holds
  pub to : at ≤ length holds

chunks_push : (bytes : List ℕ) (chunks : List Chunk) (chunk : Chunk) (middle rest : List ℕ) → ReadsChunks bytes chunks middle → ReadsChunk middle chunk rest
    → ReadsChunks bytes (chunks ++ chunk ∷ []) rest
chunks_push bytes [] chunk middle rest h one = (rest, subst (λ t. ReadsChunk t chunk rest) (sym h) one, refl)
chunks_push bytes (c ∷ chunks) chunk middle rest h one = (h.0, h.1, chunks_push h.0 chunks chunk middle rest h.2 one)

contents_push : (chunks : List Chunk) (chunk : Chunk) → contents_of (chunks ++ chunk ∷ []) ≡ contents_of chunks ++ chunk.content
contents_push [] chunk = append-nil chunk.content
contents_push (c ∷ chunks) chunk = ap (λ (t : List ℕ). c.content ++ t) (contents_push chunks chunk) ∙ sym (append_assoc c.content (contents_of chunks) chunk.content)

front_grown : (mid bytes holds : List ℕ) (start at : ℕ) (chunks : List Chunk) → start ≤ length mid → at ≤ length mid → holds ≡ mid ++ bytes
    → Front (drop start mid) chunks (drop at mid) → Front (drop start holds) chunks (drop at holds)
front_grown mid bytes holds start at chunks from to grown front =
    subst (λ t. Front t chunks (drop at holds)) (sym (ap (drop start) grown ∙ drop-append-le start mid bytes from))
    (subst (Front (drop start mid ++ bytes) chunks) (sym (ap (drop at) grown ∙ drop-append-le at mid bytes to))
    (Front-append (drop start mid) chunks (drop at mid) bytes front))

-- the fault of a chunked body
chunked : (start : ℕ) (bytes : List ℕ) (ended : Bool) (fault : HttpFault) → ChunkedFault start bytes ended fault → BodyFault Chunked start bytes ended fault
chunked start bytes ended (Ended taken) h = h
chunked start bytes ended BadHead h = h
chunked start bytes ended TooLarge h = h
chunked start bytes ended (BadBody place) h = h
chunked start bytes ended LinkFault h = tt
chunked start bytes ended NoMemory h = tt

module _ {A : Type 0} {left seen taken : A → Option (List ℕ)} {met : A → Bool} {dial faults : A → ℕ} where
  -- no chunk yet
  pub so_far_none : (a : A) (held : List ℕ) (start : ℕ) → start ≤ length held
      → Draws left seen taken met dial faults a a held held false → SoFar left seen taken met dial faults a a held held start start []
  so_far_none a held start inside draws = record {
    draws = draws;
    chunks = [];
    front = record { reads = refl; few = omega arith };
    are = refl;
    from = inside;
    to = inside;
  }

  -- one chunk more
  pub so_far_more : (a b c : A) (held mid holds body whole : List ℕ) (start at : ℕ) (read : ReadTo)
      → SoFar left seen taken met dial faults a b held mid start at body
      → ChunkRead left seen taken met dial faults b c mid holds at body whole read → read.last ≡ false
      → SoFar left seen taken met dial faults a c held holds start read.end whole × (length body < length whole)
  so_far_more a b c held mid holds body whole start at read s r more =
      let one = subst (λ l. ReadsOne l (drop at holds) r.content (drop read.end holds)) more r.is in
      let chunk : Chunk = record { line = one.0; content = r.content } in
      let front = front_grown mid r.draws.bytes holds start at s.chunks s.from s.to r.draws.grown s.front in
      let all : contents_of (s.chunks ++ chunk ∷ []) ≡ whole = contents_push s.chunks chunk ∙ ap (λ (t : List ℕ). t ++ r.content) s.are ∙ sym r.added in (
        record {
          draws = draws_more s.draws r.draws;
          chunks = s.chunks ++ chunk ∷ [];
          front = record {
            reads = chunks_push (drop start holds) s.chunks chunk (drop at holds) (drop read.end holds) front.reads one.1;
            few = omega (arith, ap length all, r.few);
          };
          are = all;
          from = omega (arith, s.from, ap length r.draws.grown, length-append mid r.draws.bytes);
          to = r.inside;
        },
        omega (arith, one.1.some, ap length r.added, length-append body r.content),
      )

  -- the last one
  pub so_far_last : (a b c : A) (held mid holds body whole seq : List ℕ) (start at : ℕ) (read : ReadTo)
      → SoFar left seen taken met dial faults a b held mid start at body
      → ChunkRead left seen taken met dial faults b c mid holds at body whole read → read.last ≡ true → seq ≡ whole
      → BodyRead left seen taken met dial faults a c held holds Chunked start (record { bytes = seq; end = read.end })
  so_far_last a b c held mid holds body whole seq start at read s r last same =
      let one = subst (λ l. ReadsOne l (drop at holds) r.content (drop read.end holds)) last r.is in
      record {
        draws = draws_more s.draws r.draws;
        inside = r.inside;
        is = record {
          chunks = s.chunks;
          tail = drop at holds;
          front = front_grown mid r.draws.bytes holds start at s.chunks s.from s.to r.draws.grown s.front;
          last = one.1.0;
          line = one.1.1;
          zero = one.1.2;
          are = same ∙ r.added ∙ ap (λ (t : List ℕ). body ++ t) one.0 ∙ append-nil body ∙ sym s.are;
        };
      }

  -- a fault behind whole chunks
  pub so_far_failed : (a b c : A) (held mid body : List ℕ) (start at : ℕ) (fault : HttpFault)
      → SoFar left seen taken met dial faults a b held mid start at body
      → Fails left seen taken met dial faults b c mid (ChunkFault at (length body)) fault
      → Fails left seen taken met dial faults a c held (Behind Chunked start) fault
  so_far_failed a b c held mid body start at fault s fails =
      fails_grown (Behind Chunked start) s.draws fails (λ holds f bytes grown is.
      chunked start (drop start holds) f fault (record {
        chunks = s.chunks;
        tail = drop at holds;
        front = front_grown mid bytes holds start at s.chunks s.from s.to grown s.front;
        at = at;
        place = omega (arith, length-drop start holds, length-drop at holds, s.from, s.to, ap length grown, length-append mid bytes);
        is = subst (λ n. TailFault at n (drop at holds) f fault) (ap length (sym s.are)) is;
      }))
