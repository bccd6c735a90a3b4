-- The streams in memory, as contracts see them, and what a call of one does.
use Rattle.std.specs.Prelude.{ℕ, ◌==◌, Bool, List, ◌++◌, ◌&&◌, ◌||◌, nat_lt, length, take, drop, Option, Result, is_err, if◌then◌else◌}
use Rattle.std.specs.List.{list_any}
use Rattle.std.specs.Result.{result_unwrap_or}
use Rattle.std.specs.Io.KnownBytes.{Appends}
use Rattle.outside.specs.Causes.{faults_after}

-- bytes that are read, at most `piece` of them in a call; the calls of these numbers fail
pub record ReadMemory : Type 0 where
  pub left : List ℕ
  pub piece : ℕ
  pub failing : List ℕ
  pub calls : ℕ
  pub faults : ℕ

-- bytes that were written, at most `piece` of them in a call; the calls of these numbers fail
pub record WriteMemory : Type 0 where
  pub taken : List ℕ
  pub piece : ℕ
  pub failing : List ℕ
  pub calls : ℕ
  pub faults : ℕ

-- the next call is one that is to fail; calls are numbered from 1
abbrev pub is_to_fail : ℕ → List ℕ → Bool
is_to_fail calls failing = list_any (λ n. n == faults_after calls) failing

-- after a read: the bytes that it gave are gone, and a failure is counted
abbrev pub after_read : {E : Type 0} → ReadMemory → Result ℕ E → ReadMemory
after_read m result = record {
  left = drop (result_unwrap_or result 0) m.left;
  piece = m.piece;
  failing = m.failing;
  calls = faults_after m.calls;
  faults = if is_err result then faults_after m.faults else m.faults;
}

-- a write took nothing of some bytes
abbrev pub takes_nothing : {E : Type 0} → List ℕ → Result ℕ E → Bool
takes_nothing bytes result = nat_lt 0 (length bytes) && result_unwrap_or result 1 == 0

-- after a write: the bytes that it took stand behind the others, and a failure is counted, and so is a write of nothing of some bytes
abbrev pub after_write : {E : Type 0} → WriteMemory → List ℕ → Result ℕ E → WriteMemory
after_write m bytes result = record {
  taken = m.taken ++ take (result_unwrap_or result 0) bytes;
  piece = m.piece;
  failing = m.failing;
  calls = faults_after m.calls;
  faults = if is_err result || takes_nothing bytes result then faults_after m.faults else m.faults;
}

-- a front of the bytes was written
abbrev pub AppendsFront : Option (List ℕ) → Option (List ℕ) → List ℕ → Type 0
AppendsFront old new bytes = (n : ℕ) × Appends old new (take n bytes)
