-- The slow count of a job, as the reports of the sendings tell it.
use Rattle.std.specs.Prelude.{◌≡◌, ℕ, ◌+◌, ◌-◌, ◌/◌, ◌^◌, Bool, true, ◌&&◌, ◌==◌, nat_lt, nat_eq, min, if◌then◌else◌, List, [], ◌∷◌, ◌++◌, length, ◌≤◌, Option, None, Some, unwrap_or, count_by}
use Rattle.std.specs.List.{list_all}
use Rattle.std.specs.Map.{lookup}
use Rattle.indexmap.specs.IndexMap.{insert_entry}
use Rattle.job_values.specs.declared.limits.TheConstants.{LATE_ABOVE, MINUTE}

-- one sending of a log: its job, and the moments at which it began and ended
pub record Sending : Type 0 where
  pub job : ℕ
  pub start : ℕ
  pub end : ℕ

-- the minute in which a sending ended
abbrev pub minute_of : Sending → ℕ
minute_of sending = sending.end / MINUTE

-- whether a sending took too long
abbrev pub is_late : Sending → Bool
is_late sending = nat_lt (sending.start + LATE_ABOVE) sending.end

-- whether all of these ended in one minute
abbrev pub in_one_minute : List Sending → Bool
in_one_minute [] = true
in_one_minute (first ∷ others) = list_all (λ other. minute_of first == minute_of other) others

-- the longest suffix whose sendings all ended in one minute
abbrev pub last_minute : List Sending → List Sending
last_minute [] = []
last_minute (first ∷ others) = if in_one_minute (first ∷ others) then first ∷ others else last_minute others

-- how many sendings of a job in that suffix were late
abbrev pub slow_count : List Sending → ℕ → ℕ
slow_count sendings job = count_by (λ sending. job == sending.job && is_late sending) (last_minute sendings)

-- what is kept of the sendings: the minute of the last one, and per job the late ones of that minute
pub record SlowCounts : Type 0 where
  pub minute : Option ℕ
  pub late : List (ℕ × ℕ)

-- nothing was sent
abbrev pub no_counts : SlowCounts
no_counts = record { minute = None; late = [] }

-- the kept count of a job
abbrev pub late_count : SlowCounts → ℕ → ℕ
late_count counts job = unwrap_or (lookup (nat_eq job) counts.late) 0

-- the counts that a sending goes on with: those of its minute
abbrev pub begun_late : Option ℕ → List (ℕ × ℕ) → ℕ → List (ℕ × ℕ)
begun_late None late minute = []
begun_late (Some kept) late minute = if kept == minute then late else []

-- one more late sending of a job; a count stays at the greatest number of its type
abbrev pub raised_late : List (ℕ × ℕ) → ℕ → List (ℕ × ℕ)
raised_late late job = insert_entry nat_eq late job (min (unwrap_or (lookup (nat_eq job) late) 0 + 1) (2 ^ 64 - 1))

-- the same if it was late
abbrev pub raised_if : Bool → List (ℕ × ℕ) → ℕ → List (ℕ × ℕ)
raised_if late counts job = if late then raised_late counts job else counts

-- the kept counts after one more sending
abbrev pub counts_with : SlowCounts → Sending → SlowCounts
counts_with counts sending = record {
  minute = Some (minute_of sending);
  late = raised_if (is_late sending) (begun_late counts.minute counts.late (minute_of sending)) sending.job;
}

-- the minute in which the first of these ended
abbrev pub first_minute : List Sending → Option ℕ
first_minute [] = None
first_minute (first ∷ others) = Some (minute_of first)

-- what is kept are the counts of these sendings; a count stays at the greatest number of its type
pub record IsTally (counts : SlowCounts) (sendings : List Sending) : Type 0 where
  pub minute : counts.minute ≡ first_minute (last_minute sendings)
  pub late : (job : ℕ) → late_count counts job ≡ min (slow_count sendings job) (2 ^ 64 - 1)

-- a list is a suffix in one minute, and none of the longer ones is
pub record IsLongestInOneMinute (sendings suffix : List Sending) : Type 0 where
  pub front : (front : List Sending) × (sendings ≡ front ++ suffix)
  pub one : in_one_minute suffix ≡ true
  pub longest : (front back : List Sending) → sendings ≡ front ++ back → in_one_minute back ≡ true → length back ≤ length suffix

-- the last minute is that suffix
abbrev pub LastMinuteIsLongest : Type 0
LastMinuteIsLongest = (sendings : List Sending) → IsLongestInOneMinute sendings (last_minute sendings)

-- the kept counts of some sendings become those of one more
abbrev pub TallyIsKept : Type 0
TallyIsKept =
    (counts : SlowCounts) (sendings : List Sending) (sending : Sending) → IsTally counts sendings
    → IsTally (counts_with counts sending) (sendings ++ sending ∷ [])
