-- What a link tells of reading, and links in memory as contracts see them.
use Rattle.std.specs.Prelude.{ℕ, ◌-◌, ◌^◌, Bool, false, List, [], ◌++◌, ◌||◌, take, drop, Option, Result, MatchResult, is_err, if◌then◌else◌}
use Rattle.std.specs.Result.{result_unwrap_or}
use Rattle.std.specs.Io.KnownBytes.{Appends, Keeps}
use Rattle.outside.specs.Causes.{faults_after}
use Rattle.outside.specs.Streams.{takes_nothing}

-- the bytes that were read so far grow by the n bytes that a read gave at `Ok(n)`, and stay at an `Err`
abbrev pub ReadGrows : {E : Type 0} → Option (List ℕ) → Option (List ℕ) → Result ℕ E → List ℕ → Type 0
ReadGrows old new result into =
    MatchResult result (λ n. Appends old new (take n into)) (λ _. Keeps old new)

-- a read met the end: it answered 0, and there was room for a byte
abbrev pub meets_end : {E : Type 0} → List ℕ → Result ℕ E → Bool
meets_end into result = takes_nothing into result

-- bytes to be read, at most `piece` of them in a call, and a place for bytes, at most `room` of them in a
-- call; the calls of these numbers fail, reads and writes counted together
pub record LinkMemory : Type 0 where
  pub left : List ℕ
  pub seen : List ℕ
  pub taken : List ℕ
  pub met : Bool
  pub dial : ℕ
  pub piece : ℕ
  pub room : ℕ
  pub failing : List ℕ
  pub calls : ℕ
  pub faults : ℕ

-- after a read: the bytes that it gave have moved to those that were read, an end that it met is known, and a failure is counted
abbrev pub after_link_read : {E : Type 0} → LinkMemory → List ℕ → Result ℕ E → LinkMemory
after_link_read m into result = record m {
  left = drop (result_unwrap_or result 0) m.left;
  seen = m.seen ++ take (result_unwrap_or result 0) m.left;
  met = m.met || meets_end into result;
  calls = faults_after m.calls;
  faults = if is_err result then faults_after m.faults else m.faults;
}

-- after a write: the bytes that it took stand behind the others, and a failure is counted, and so is a write of nothing of some bytes
abbrev pub after_link_write : {E : Type 0} → LinkMemory → List ℕ → Result ℕ E → LinkMemory
after_link_write m bytes result = record m {
  taken = m.taken ++ take (result_unwrap_or result 0) bytes;
  calls = faults_after m.calls;
  faults = if is_err result || takes_nothing bytes result then faults_after m.faults else m.faults;
}

-- a link as it was before any call, at this place: what was read is left again
abbrev pub renewed_link : LinkMemory → ℕ → LinkMemory
renewed_link m place = record m {
  left = m.seen ++ m.left;
  seen = [];
  taken = [];
  met = false;
  dial = place;
  calls = 0;
  faults = 0;
}

-- a link with these bytes to be read, before any call, at this place
abbrev pub fresh_link : List ℕ → ℕ → LinkMemory
fresh_link bytes place = record {
  left = bytes;
  seen = [];
  taken = [];
  met = false;
  dial = place;
  piece = 2 ^ 64 - 1;
  room = 2 ^ 64 - 1;
  failing = [];
  calls = 0;
  faults = 0;
}
