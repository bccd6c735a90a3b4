-- What the bytes of one item say.
use Rattle.std.specs.Prelude.{ℕ, ◌+◌, ◌-◌, ◌==◌, nat_le, nat_lt, Bool, true, false, ◌&&◌, ◌||◌, List, length, slice_index, take, drop, codes, position, Option, Some, None, if◌then◌else◌}
use Rattle.std.specs.Char.{to_ascii_uppercase}
use Rattle.cron_schedule.specs.declared.item.Run.{Run}
use Rattle.cron_schedule.specs.declared.item.Item.{Item}
use Rattle.cron_schedule.specs.declared.item.Item.TheVariants.{Values, Free, Last, LastWorkday, Workday, LastWeekday, NthWeekday}
use Rattle.cron_schedule.specs.Field.{least, greatest, greatest_step}
use Rattle.cron_schedule.specs.Number.{number_of}

-- the text is this one byte
abbrev pub is_byte : ℕ → List ℕ → Bool
is_byte byte text = (length text == 1) && (slice_index text 0 == byte)

-- the byte at a place is this letter, in any case
abbrev pub is_letter_at : List ℕ → ℕ → ℕ → Bool
is_letter_at text place letter = to_ascii_uppercase (slice_index text place) == letter

-- the text is a name of three letters, in any case
abbrev pub is_name : List ℕ → List ℕ → Bool
is_name name text =
    (length text == 3) && is_letter_at text 0 (slice_index name 0) && is_letter_at text 1 (slice_index name 1)
    && is_letter_at text 2 (slice_index name 2)

-- the month that a name names
abbrev pub month_named : List ℕ → Option ℕ
month_named text =
    if is_name (codes "JAN") text then Some 1 else if is_name (codes "FEB") text then Some 2
    else if is_name (codes "MAR") text then Some 3 else if is_name (codes "APR") text then Some 4
    else if is_name (codes "MAY") text then Some 5 else if is_name (codes "JUN") text then Some 6
    else if is_name (codes "JUL") text then Some 7 else if is_name (codes "AUG") text then Some 8
    else if is_name (codes "SEP") text then Some 9 else if is_name (codes "OCT") text then Some 10
    else if is_name (codes "NOV") text then Some 11 else if is_name (codes "DEC") text then Some 12
    else None

-- the weekday that a name names, 1 for Sunday
abbrev pub weekday_named : List ℕ → Option ℕ
weekday_named text =
    if is_name (codes "SUN") text then Some 1 else if is_name (codes "MON") text then Some 2
    else if is_name (codes "TUE") text then Some 3 else if is_name (codes "WED") text then Some 4
    else if is_name (codes "THU") text then Some 5 else if is_name (codes "FRI") text then Some 6
    else if is_name (codes "SAT") text then Some 7 else None

-- the value that a name names in a field
abbrev pub named : ℕ → List ℕ → Option ℕ
named field text =
    if field == 5 then month_named text else if field == 6 then weekday_named text else None

-- a number, if it lies within bounds
abbrev pub within : ℕ → ℕ → Option ℕ → Option ℕ
within low high None = None
within low high (Some n) = if nat_le low n && nat_le n high then Some n else None

-- the first, or else the second
abbrev pub first_of : Option ℕ → Option ℕ → Option ℕ
first_of (Some n) other = Some n
first_of None other = other

-- the value of a field that a number of one to four digits or a name gives
abbrev pub value_of : ℕ → List ℕ → Option ℕ
value_of field text =
    first_of (within (least field) (greatest field) (number_of 4 text)) (named field text)

-- the step that a text gives
abbrev pub step_of : ℕ → List ℕ → Option ℕ
step_of field text = within 1 (greatest_step field) (number_of 4 text)

-- a run of these values, each step-th
abbrev pub run_of : ℕ → ℕ → ℕ → Option Run
run_of from to step = Some (record { from = from; to = to; step = step })

-- one value, up to the greatest where a step follows
abbrev pub lone : ℕ → Bool → Option ℕ → Option Run
lone field stepped None = None
lone field stepped (Some v) = run_of v (if stepped then greatest field else v) 1

-- the values from one to another; in the years they do not wrap round
abbrev pub between : ℕ → Option ℕ → Option ℕ → Option Run
between field None to = None
between field (Some from) None = None
between field (Some from) (Some to) = if (field == 7) && nat_lt to from then None else run_of from to 1

-- the values of a text that is split at its first `-`, if it has one
abbrev pub range_at : ℕ → Bool → List ℕ → Option ℕ → Option Run
range_at field stepped text None = lone field stepped (value_of field text)
range_at field stepped text (Some dash) =
    between field (value_of field (take dash text)) (value_of field (drop (dash + 1) text))

-- the values of an item without its step: `*`, one value or a range
abbrev pub range_of : ℕ → Bool → List ℕ → Option Run
range_of field stepped text =
    if is_byte 42 text then run_of (least field) (greatest field) 1
    else range_at field stepped text (position (λ byte. byte == 45) text)

-- each step-th of the values
abbrev pub with_step : Option Run → Option ℕ → Option Run
with_step None step = None
with_step (Some run) None = None
with_step (Some run) (Some step) = run_of run.from run.to step

-- the values of a text that is split at its first `/`, if it has one
abbrev pub values_at : ℕ → List ℕ → Option ℕ → Option Run
values_at field text None = range_of field false text
values_at field text (Some slash) =
    with_step (range_of field true (take slash text)) (step_of field (drop (slash + 1) text))

-- the item of a run
abbrev pub values_item : Option Run → Option Item
values_item None = None
values_item (Some run) = Some (Values run)

-- the item of a set of values
abbrev pub values_of : ℕ → List ℕ → Option Item
values_of field text = values_item (values_at field text (position (λ byte. byte == 47) text))

abbrev pub days_back : Option ℕ → Option Item
days_back None = None
days_back (Some n) = Some (Last n)

abbrev pub near_day : Option ℕ → Option Item
near_day None = None
near_day (Some n) = Some (Workday n)

-- `L`, `LW`, `L-n` from 1 to 30 and `nW` from 1 to 31
abbrev pub day_rule : List ℕ → Option Item
day_rule text =
    if length text == 0 then None
    else if is_letter_at text 0 76 then
    (if length text == 1 then Some (Last 0)
    else if (length text == 2) && is_letter_at text 1 87 then Some LastWorkday
    else if slice_index text 1 == 45 then days_back (within 1 30 (number_of 4 (drop 2 text)))
    else None)
    else if is_letter_at text (length text - 1) 87 then near_day (within 1 31 (number_of 4 (take (length text - 1) text)))
    else None

abbrev pub last_such : Option ℕ → Option Item
last_such None = None
last_such (Some weekday) = Some (LastWeekday weekday)

abbrev pub nth_such : Option ℕ → Option ℕ → Option Item
nth_such None k = None
nth_such (Some weekday) None = None
nth_such (Some weekday) (Some k) = Some (NthWeekday weekday k)

abbrev pub nth_at : List ℕ → Option ℕ → Option Item
nth_at text None = None
nth_at text (Some hash) = nth_such (value_of 6 (take hash text)) (within 1 5 (number_of 4 (drop (hash + 1) text)))

-- `L`, `dL` and `d#k` with k from 1 to 5
abbrev pub weekday_rule : List ℕ → Option Item
weekday_rule text =
    if length text == 0 then None
    else if is_letter_at text (length text - 1) 76 then
    (if length text == 1 then Some (Last 0) else last_such (value_of 6 (take (length text - 1) text)))
    else nth_at text (position (λ byte. byte == 35) text)

-- the rule on days that a text gives in a field
abbrev pub rule_of : ℕ → List ℕ → Option Item
rule_of field text =
    if field == 4 then day_rule text else if field == 6 then weekday_rule text else None

abbrev pub rule_or : Option Item → Option Item → Option Item
rule_or (Some item) values = Some item
rule_or None values = values

-- the item of a field that a text gives
abbrev pub item_of : ℕ → List ℕ → Option Item
item_of field text =
    if ((field == 4) || (field == 6)) && is_byte 63 text then Some Free
    else rule_or (rule_of field text) (values_of field text)
