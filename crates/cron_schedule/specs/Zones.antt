-- The instants at which a zone's clock changes, and its offset at an instant. Instants are seconds since
-- 1970-01-01T00:00:00Z, and years count from 1970.
use Rattle.std.specs.Prelude.{◌≡◌, ℕ, ◌+◌, ◌-◌, ◌*◌, ◌/◌, ◌%◌, ◌<◌, ◌≤◌, nat_le, Bool, true, false, not, ◌&&◌, ◌||◌, is_some, int_le, int_lt, ◌==◌, ◌⊎◌, ℤ, pos, ◌+ℤ◌, ◌-ℤ◌, ◌*ℤ◌, ◌<ℤ◌, ◌≤ℤ◌, Option, Some, None, if◌then◌else◌}
use Rattle.jiff_core.specs.Calendar.{days_in_month, days_from_civil, IsWithin}
use Rattle.std.specs.Int.{IsInRange}
use Rattle.zone_texts.specs.Changes.{Change}
use Rattle.zone_texts.specs.declared.zone.ZoneRules.{ZoneRules}
use Rattle.zone_texts.specs.declared.zone.Zone.{Zone}
use Rattle.cron_schedule.specs.declared.zones.Passed.{Passed}
use Rattle.cron_schedule.specs.First.{first_in}
use Rattle.cron_schedule.specs.Calendar.{weekday_on, cron_weekday}

-- the day of a month on which a weekday, from 0 for Sunday, comes for that time
abbrev pub nth_day : ℤ → ℕ → ℕ → ℕ → ℕ
nth_day y m weekday n = (weekday + 6 - weekday_on y m 1) % 7 + 7 * n - 6

-- the day of the month of a rule in a year; the fifth week is the last
abbrev pub rule_day : Change → ℤ → ℕ
rule_day rule y =
    if nat_le (nth_day y rule.month rule.day rule.week) (days_in_month y rule.month)
    then nth_day y rule.month rule.day rule.week
    else nth_day y rule.month rule.day 4

-- the second of the civil clock at which a rule's date and time come in a year
abbrev pub rule_second : Change → ℤ → ℤ
rule_second rule y = days_from_civil y rule.month (rule_day rule y) *ℤ pos 86400 +ℤ pos rule.time

-- the instant, in a year, at which a clock so far ahead of UTC shows a rule's date and time
abbrev pub change_at : Change → ℤ → ℕ → ℤ
change_at rule offset n = rule_second rule (pos (1970 + n)) -ℤ offset

-- one of the years from 1970 to 2099 passes
abbrev pub some_year : (ℕ → Bool) → Bool
some_year test = is_some (first_in test 0 130)

-- some end lies from one instant on up to another
abbrev pub is_ended : (ℕ → ℤ) → ℤ → ℤ → Bool
is_ended end from u = some_year (λ n. int_le from (end n) && int_le (end n) u)

-- some begin is not above the instant, and no end lies from it on up to the instant
abbrev pub has_begun : (ℕ → ℤ) → (ℕ → ℤ) → ℤ → Bool
has_begun begin end u = some_year (λ n. int_le (begin n) u && not (is_ended end (begin n) u))

-- some change is not above the instant
abbrev pub is_changed : (ℕ → ℤ) → (ℕ → ℤ) → ℤ → Bool
is_changed begin end u = some_year (λ n. int_le (begin n) u || int_le (end n) u)

-- some begin lies before an instant
abbrev pub is_preceded : (ℕ → ℤ) → ℤ → Bool
is_preceded begin u = some_year (λ n. int_lt (begin n) u)

-- no change is up to the instant, and some end is not above any begin
abbrev pub is_before_end : (ℕ → ℤ) → (ℕ → ℤ) → ℤ → Bool
is_before_end begin end u =
    not (is_changed begin end u) && some_year (λ n. not (is_preceded begin (end n)))

-- daylight time: the last change is a begin, or none has been and the first is an end; of equal instants the end counts
abbrev pub is_daylight : (ℕ → ℤ) → (ℕ → ℤ) → ℤ → Bool
is_daylight begin end u = has_begun begin end u || is_before_end begin end u

-- the instant of a begin, which a clock on standard time shows, and of an end, which one on daylight time shows
abbrev pub begin_at : ℤ → ZoneRules → ℕ → ℤ
begin_at standard rules = change_at rules.begin standard

abbrev pub end_at : ZoneRules → ℕ → ℤ
end_at rules = change_at rules.end rules.daylight

-- the offset by rules at an instant
abbrev pub offset_under : ℤ → ZoneRules → ℤ → ℤ
offset_under standard rules u =
    if is_daylight (begin_at standard rules) (end_at rules) u then rules.daylight else standard

-- without rules there is one offset
abbrev pub offset_by : ℤ → Option ZoneRules → ℤ → ℤ
offset_by standard None u = standard
offset_by standard (Some rules) u = offset_under standard rules u

-- the offset of a zone at a moment, in seconds ahead of UTC
abbrev pub offset_at : Zone → ℕ → ℤ
offset_at zone t = offset_by zone.standard zone.rules (pos (t / 1000))

-- the bounds of a rule's numbers
pub record IsRule (rule : Change) : Type 0 where
  pub month_in : IsInRange 1 12 rule.month
  pub week_in : IsInRange 1 5 rule.week
  pub day_in : rule.day ≤ 6

-- the first n of a list of instants, and no others, are not above an instant
pub record IsPassed (change : ℕ → ℤ) (u : ℤ) (n : ℕ) : Type 0 where
  pub most : n ≤ 130
  pub passed : (k : ℕ) → k < n → change k ≤ℤ u
  pub to_come : (k : ℕ) → n ≤ k → k < 130 → u <ℤ change k

-- so many instants of a list, and no others, are not above an instant, with the last of them and the next
pub record IsPassing (change : ℕ → ℤ) (u : ℤ) (p : Passed) : Type 0 where
  pub count : IsPassed change u p.count
  pub last : 0 < p.count → p.last ≡ change (p.count - 1)
  pub next : p.count < 130 → p.next ≡ change p.count
  pub bound : p.count < 130 → IsWithin 1_000_000_100_000 p.next

-- daylight time after these begins and ends, where both come in order
abbrev pub is_daylight_past : Passed → Passed → Bool
is_daylight_past begins ends =
    if begins.count == 0 then (if ends.count == 0 then int_le ends.next begins.next else false)
    else if ends.count == 0 then true
    else int_lt ends.last begins.last

-- the offset after these begins and ends
abbrev pub offset_after : ℤ → ZoneRules → Passed → Passed → ℤ
offset_after standard rules begins ends = if is_daylight_past begins ends then rules.daylight else standard

-- the next of a list of instants, after the first n, is not below a second
abbrev pub IsNextFrom : (ℕ → ℤ) → ℕ → ℕ → Type 0
IsNextFrom change n until = n < 130 → pos until ≤ℤ change n

-- the next change is above a second
abbrev pub IsBeforeNext : Passed → ℕ → Type 0
IsBeforeNext p at = p.count < 130 → pos at <ℤ p.next

-- and not below one
abbrev pub IsUpToNext : Passed → ℕ → Type 0
IsUpToNext p until = p.count < 130 → pos until ≤ℤ p.next

-- there is a next change, and it is not above a second
abbrev pub IsNextReached : Passed → ℕ → Type 0
IsNextReached p until = (p.count < 130) × (p.next ≤ℤ pos until)

-- a stretch with one offset ends at a second: at a change, or with 2099
pub record IsStretchEnd (begins ends : Passed) (at until : ℕ) : Type 0 where
  pub later : at < until
  pub most : until ≤ 4102444800
  pub before_begin : IsUpToNext begins until
  pub before_end : IsUpToNext ends until
  pub reached : (until ≡ 4102444800) ⊎ (IsNextReached begins until ⊎ IsNextReached ends until)

-- a day of a month is of a rule's weekday, and lies in its week; week 5 is the last seven days
pub record IsRuleDay (rule : Change) (y : ℤ) (d : ℕ) : Type 0 where
  pub least : 1 ≤ d
  pub most : d ≤ days_in_month y rule.month
  pub weekday : cron_weekday y rule.month d ≡ rule.day + 1
  pub week : rule.week < 5 → (7 * rule.week < d + 7) × (d ≤ 7 * rule.week)
  pub last : rule.week ≡ 5 → days_in_month y rule.month < d + 7

-- the day of a rule is that day of its month, and there is no other
abbrev pub RuleDays : Type 0
RuleDays =
    (rule : Change) (y : ℤ) → IsRule rule
    → IsRuleDay rule y (rule_day rule y) × ((d : ℕ) → IsRuleDay rule y d → d ≡ rule_day rule y)
