-- Chunked bodies: chunks with data, then a line of size zero and CR LF. Sizes are hexadecimal, text
-- behind a size is ignored, and no fields stand at the end.
use Rattle.std.specs.Prelude.{ℕ, ◌≡◌, ◌≢◌, ◌+◌, ◌<◌, ◌≤◌, ◌⊎◌, Bool, true, List, [], ◌∷◌, ◌++◌, length, take}
use Rattle.httparse.specs.Grammar.{ChunkLine, print_chunk_line, chunk_size, ReadsChunkLine, HasNoChunkLine, NeverHasChunkLine, MayBecomeChunkLine}
use Rattle.job_values.specs.declared.limits.TheConstants.{LONGEST_BODY}
use Rattle.http_reading.specs.declared.plan.TheConstants.{MOST_LINE}
use Rattle.http_reading.specs.declared.fault.HttpFault.{HttpFault}
use Rattle.http_reading.specs.declared.fault.HttpFault.TheVariants.{Ended, BadHead, TooLarge, BadBody, LinkFault, NoMemory}

-- a line that tells a size, and data
pub record Chunk : Type 0 where
  pub line : ChunkLine
  pub content : List ℕ

-- the bytes begin with this line of at most 16,384 bytes, and `rest` follows it
pub record Line (bytes : List ℕ) (line : ChunkLine) (rest : List ℕ) : Type 0 where
  pub reads : ReadsChunkLine bytes line rest
  pub short : length (print_chunk_line line) ≤ MOST_LINE

-- the bytes begin with this chunk, and `rest` follows its CR LF
pub record ReadsChunk (bytes : List ℕ) (chunk : Chunk) (rest : List ℕ) : Type 0 where
  pub line : Line bytes chunk.line (chunk.content ++ 13 ∷ 10 ∷ rest)
  pub size : chunk_size chunk.line ≡ length chunk.content
  pub some : 0 < length chunk.content

-- the bytes begin with these chunks, one after another, and `rest` follows them
abbrev pub ReadsChunks : List ℕ → List Chunk → List ℕ → Type 0
ReadsChunks bytes [] rest = bytes ≡ rest
ReadsChunks bytes (chunk ∷ chunks) rest = (middle : List ℕ) × ReadsChunk bytes chunk middle × ReadsChunks middle chunks rest

-- the data of the chunks, one after another
abbrev pub contents_of : List Chunk → List ℕ
contents_of [] = []
contents_of (chunk ∷ chunks) = chunk.content ++ contents_of chunks

-- the bytes begin with these chunks, whose data is within the limit, and `rest` follows them
pub record Front (bytes : List ℕ) (chunks : List Chunk) (rest : List ℕ) : Type 0 where
  pub reads : ReadsChunks bytes chunks rest
  pub few : length (contents_of chunks) ≤ LONGEST_BODY

-- the bytes begin with a chunked body, and `rest` follows it
pub record ReadsChunked (bytes body rest : List ℕ) : Type 0 where
  pub chunks : List Chunk
  pub tail : List ℕ
  pub front : Front bytes chunks tail
  pub last : ChunkLine
  pub line : Line tail last (13 ∷ 10 ∷ rest)
  pub zero : chunk_size last ≡ 0
  pub are : body ≡ contents_of chunks

-- a line before a chunk may come of the bytes, and has not yet
pub record OpenLine (bytes : List ℕ) : Type 0 where
  pub few : length bytes < MOST_LINE
  pub none : HasNoChunkLine bytes
  pub some : MayBecomeChunkLine bytes

-- the 16,384 bytes that such a line may have are there, and hold none
pub record LongLine (bytes : List ℕ) : Type 0 where
  pub many : MOST_LINE ≤ length bytes
  pub none : HasNoChunkLine (take MOST_LINE bytes)
  pub some : MayBecomeChunkLine (take MOST_LINE bytes)

-- the byte at this place is the first with which no such line begins
pub record BadLine (bytes : List ℕ) (place : ℕ) : Type 0 where
  pub inside : place < length bytes
  pub early : place < MOST_LINE
  pub some : MayBecomeChunkLine (take place bytes)
  pub none : NeverHasChunkLine (take (place + 1) bytes)

-- behind data of this size a chunk begins whose line is whole, and whose data is within the limit
pub record OpenChunk (before : ℕ) (bytes : List ℕ) (line : ChunkLine) (rest : List ℕ) : Type 0 where
  pub reads : Line bytes line rest
  pub few : before + chunk_size line ≤ LONGEST_BODY

-- its data or its CR LF is not whole
pub record Unclosed (before : ℕ) (bytes : List ℕ) : Type 0 where
  pub line : ChunkLine
  pub rest : List ℕ
  pub chunk : OpenChunk before bytes line rest
  pub content : List ℕ
  pub more : List ℕ
  pub size : length content ≡ chunk_size line
  pub some : 0 < length more
  pub are : rest ++ more ≡ content ++ 13 ∷ 10 ∷ []

-- the byte at this place stands where the CR or the LF behind its data is to be
pub record BadClose (before : ℕ) (bytes : List ℕ) (place : ℕ) : Type 0 where
  pub line : ChunkLine
  pub rest : List ℕ
  pub chunk : OpenChunk before bytes line rest
  pub content : List ℕ
  pub byte : ℕ
  pub more : List ℕ
  pub size : length content ≡ chunk_size line
  pub is : ((rest ≡ content ++ byte ∷ more) × (byte ≢ 13) × (place ≡ length (print_chunk_line line) + length content))
      ⊎ ((rest ≡ content ++ 13 ∷ byte ∷ more) × (byte ≢ 10) × (place ≡ length (print_chunk_line line) + length content + 1))

-- a chunk begins that makes the body too large
pub record LargeChunk (before : ℕ) (bytes : List ℕ) : Type 0 where
  pub line : ChunkLine
  pub rest : List ℕ
  pub reads : Line bytes line rest
  pub large : LONGEST_BODY < before + chunk_size line

-- the fault of the bytes that stand behind whole chunks with so much data, of which the first has this
-- place in the message; `ended` tells whether more can come
abbrev pub TailFault : ℕ → ℕ → List ℕ → Bool → HttpFault → Type 0
TailFault at before bytes ended (Ended taken) =
    (ended ≡ true) × (taken ≡ at + length bytes) × (OpenLine bytes ⊎ Unclosed before bytes)
TailFault at before bytes ended BadHead = ⊥
TailFault at before bytes ended TooLarge = LongLine bytes ⊎ LargeChunk before bytes
TailFault at before bytes ended (BadBody place) =
    (k : ℕ) × (place ≡ at + k) × (BadLine bytes k ⊎ BadClose before bytes k)
TailFault at before bytes ended LinkFault = Unit {0}
TailFault at before bytes ended NoMemory = Unit {0}

-- the fault of bytes that are no chunked body: whole chunks, and then a fault
pub record ChunkedFault (start : ℕ) (bytes : List ℕ) (ended : Bool) (fault : HttpFault) : Type 0 where
  pub chunks : List Chunk
  pub tail : List ℕ
  pub front : Front bytes chunks tail
  pub at : ℕ
  pub place : at + length tail ≡ start + length bytes
  pub is : TailFault at (length (contents_of chunks)) tail ended fault
