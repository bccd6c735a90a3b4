-- Chunks that a call has read, and the lines before them as the parser tells them.
use Rattle.std.specs.Prelude.{ℕ, ◌≡◌, ◌≢◌, ◌+◌, ◌<◌, ◌≤◌, ◌⊎◌, Bool, true, false, List, [], ◌∷◌, ◌++◌, length, take, drop, Option, Result, Ok, Err}
use Rattle.httparse.specs.Grammar.{ChunkLine, print_chunk_line, chunk_size, MayBecomeChunkLine, NeverHasChunkLine}
use Rattle.job_values.specs.declared.limits.TheConstants.{LONGEST_BODY}
use Rattle.http_reading.specs.Draws.{Draws}
use Rattle.http_reading.specs.Chunks.{Line, ReadsChunk, LongLine, BadLine, TailFault}
use Rattle.http_reading.specs.declared.size_line.SizeLine.{SizeLine}
use Rattle.http_reading.specs.declared.chunks.ReadTo.{ReadTo}
use Rattle.http_reading.specs.declared.fault.HttpFault.{HttpFault}
use Rattle.http_reading.specs.declared.fault.HttpFault.TheVariants.{Ended, BadHead, TooLarge, BadBody, LinkFault, NoMemory}

-- the byte at this place is the first with which no line before a chunk begins
pub record FirstBad (bytes : List ℕ) (place : ℕ) : Type 0 where
  pub inside : place < length bytes
  pub some : MayBecomeChunkLine (take place bytes)
  pub none : NeverHasChunkLine (take (place + 1) bytes)

-- the bytes begin with a line of this length that tells this size
pub record LineAt (bytes : List ℕ) (line : SizeLine) : Type 0 where
  pub is : ChunkLine
  pub reads : Line bytes is (drop line.len bytes)
  pub len_is : line.len ≡ length (print_chunk_line is)
  pub inside : line.len ≤ length bytes
  pub size_is : line.size ≡ chunk_size is

-- the fault of bytes that begin with no such line, the first of which has this place
abbrev pub SizeRefused : ℕ → List ℕ → HttpFault → Type 0
SizeRefused at bytes (Ended taken) = ⊥
SizeRefused at bytes BadHead = ⊥
SizeRefused at bytes TooLarge = LongLine bytes
SizeRefused at bytes (BadBody place) = (k : ℕ) × (place ≡ at + k) × BadLine bytes k
SizeRefused at bytes LinkFault = ⊥
SizeRefused at bytes NoMemory = ⊥

-- the bytes from `at` on begin with such a line
pub record SizeRead {A : Type 0} (left seen taken : A → Option (List ℕ)) (met : A → Bool) (dial faults : A → ℕ)
    (before now : A) (held holds : List ℕ) (at : ℕ) (line : SizeLine) : Type 0 where
  pub draws : Draws left seen taken met dial faults before now held holds false
  pub is : LineAt (drop at holds) line

-- the fault of the bytes from `at` on, whatever stands before them
abbrev pub SizeFault : ℕ → List ℕ → Bool → HttpFault → Type 0
SizeFault at holds ended fault = (before : ℕ) → TailFault at before (drop at holds) ended fault

-- what stands where CR LF is to be: it, a front of it, or another byte
abbrev pub Closing : List ℕ → Result Bool ℕ → Type 0
Closing bytes (Ok true) = bytes ≡ 13 ∷ 10 ∷ drop 2 bytes
Closing bytes (Ok false) = (bytes ≡ []) ⊎ (bytes ≡ 13 ∷ [])
Closing bytes (Err k) =
    (byte : ℕ) × (more : List ℕ)
    × (((bytes ≡ byte ∷ more) × (byte ≢ 13) × (k ≡ 0)) ⊎ ((bytes ≡ 13 ∷ byte ∷ more) × (byte ≢ 10) × (k ≡ 1)))

-- CR LF stands at this place
pub record ClosedAt (bytes : List ℕ) (end : ℕ) : Type 0 where
  pub inside : end ≤ length bytes
  pub is : drop end bytes ≡ 13 ∷ 10 ∷ drop (end + 2) bytes

-- the bytes end before it may
abbrev pub OpenAt : List ℕ → ℕ → Type 0
OpenAt bytes end = (length bytes < end) ⊎ ((drop end bytes ≡ []) ⊎ (drop end bytes ≡ 13 ∷ []))

-- another byte stands there
abbrev pub CloseRefused : List ℕ → ℕ → HttpFault → Type 0
CloseRefused bytes end (Ended taken) = ⊥
CloseRefused bytes end BadHead = ⊥
CloseRefused bytes end TooLarge = ⊥
CloseRefused bytes end (BadBody place) =
    (end ≤ length bytes)
    × ((byte : ℕ) × (more : List ℕ)
    × (((drop end bytes ≡ byte ∷ more) × (byte ≢ 13) × (place ≡ end)) ⊎ ((drop end bytes ≡ 13 ∷ byte ∷ more) × (byte ≢ 10) × (place ≡ end + 1))))
CloseRefused bytes end LinkFault = ⊥
CloseRefused bytes end NoMemory = ⊥

-- the fault of bytes without CR LF at this place
abbrev pub CloseFault : ℕ → List ℕ → Bool → HttpFault → Type 0
CloseFault end holds ended (Ended taken) = (ended ≡ true) × (taken ≡ length holds) × OpenAt holds end
CloseFault end holds ended BadHead = ⊥
CloseFault end holds ended TooLarge = ⊥
CloseFault end holds ended (BadBody place) = CloseRefused holds end (BadBody place)
CloseFault end holds ended LinkFault = Unit {0}
CloseFault end holds ended NoMemory = Unit {0}

-- a call read so far: CR LF stands at this place
pub record Closed {A : Type 0} (left seen taken : A → Option (List ℕ)) (met : A → Bool) (dial faults : A → ℕ)
    (before now : A) (held holds : List ℕ) (end : ℕ) : Type 0 where
  pub draws : Draws left seen taken met dial faults before now held holds false
  pub is : ClosedAt holds end

-- the bytes begin with this chunk, or with the line and the CR LF that end all chunks, and `rest` follows
abbrev pub ReadsOne : Bool → List ℕ → List ℕ → List ℕ → Type 0
ReadsOne true bytes content rest =
    (content ≡ []) × ((line : ChunkLine) × Line bytes line (13 ∷ 10 ∷ rest) × (chunk_size line ≡ 0))
ReadsOne false bytes content rest = (line : ChunkLine) × ReadsChunk bytes (record { line = line; content = content }) rest

-- a call read so far: a chunk begins at `at`, and its content stands behind the body
pub record ChunkRead {A : Type 0} (left seen taken : A → Option (List ℕ)) (met : A → Bool) (dial faults : A → ℕ)
    (before now : A) (held holds : List ℕ) (at : ℕ) (body whole : List ℕ) (read : ReadTo) : Type 0 where
  pub draws : Draws left seen taken met dial faults before now held holds false
  pub content : List ℕ
  pub added : whole ≡ body ++ content
  pub few : length whole ≤ LONGEST_BODY
  pub inside : read.end ≤ length holds
  pub is : ReadsOne read.last (drop at holds) content (drop read.end holds)

-- the fault of the bytes from `at` on, behind chunks with so much content
abbrev pub ChunkFault : ℕ → ℕ → List ℕ → Bool → HttpFault → Type 0
ChunkFault at before holds ended fault = TailFault at before (drop at holds) ended fault
