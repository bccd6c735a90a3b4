-- Reading by the grammar is reading its parts one after the other.
use Rattle.std.proofs.Common.{◌≡◌, ℕ, zero, suc, ◌+◌, ◌-◌, ◌*◌, ℤ, pos, neg_ℤ, ◌+ℤ◌, ◌||◌, ◌==◌, Bool, true, false, cond, if◌then◌else◌, List, [], ◌∷◌, length, Some, Result, Ok, Err, refl, sym, ap, ◌∙◌}
use Rattle.zone_texts.specs.declared.zone.Zone.{Zone}
use Rattle.zone_texts.specs.declared.reading.NameBytes.{NameBytes}
use Rattle.zone_texts.specs.declared.reading.NameBytes.TheVariants.{Letters, Quoted}
use Rattle.zone_texts.specs.Changes.{Change}
use Rattle.zone_texts.specs.Grammar.{Grammar, Gives, One, Or, and_then, or_else, reading, at_end, whole, ◌>>=◌}
use Rattle.zone_texts.specs.ZoneText.{within, is_letter, is_quoted, byte, up_to, three_to_eight, name, digit, is_second, number, minutes, clock, west, east, offset, time, rule, daylight, moved, fixed, zone_text}
use Rattle.zone_texts.specs.Laws.{GoesOn}
use Rattle.zone_texts.proofs.GrammarLaws.{begins}
use Rattle.zone_texts.specs.Reading.{one_at, class_of, name_byte_at, byte_at, behind_up_to, three_to_eight_at, quoted_at, name_at, digit_at, second_at, number_at, two_digits_at, minutes_at, clock_at, west_at, east_at, offset_at, begins_offset, daylight_at, time_at, rule_at, moved_at, begins_name, moved_or_fixed_at, zone_at}

-- the function reads by the grammar
abbrev IsReading : {V : Type 0} → Grammar V → (List ℕ → Result (V × List ℕ) ℕ) → Type 0
IsReading g at = (bytes : List ℕ) → reading g bytes ≡ at bytes

bind_cond : {A B : Type 0} (t : Bool) (r s : Result A ℕ) (f : A → Result B ℕ) → (cond t r s >>= f) ≡ cond t (r >>= f) (s >>= f)
bind_cond true r s f = refl
bind_cond false r s f = refl

abbrev behind_it : {V W : Type 0} → (V → Grammar W) → V × List ℕ → Result (W × List ℕ) ℕ
behind_it k x = reading (k x.0) x.1

and_then_reading : {V W : Type 0} (g : Grammar V) (k : V → Grammar W) (bytes : List ℕ) → reading (and_then g k) bytes ≡ (reading g bytes >>= behind_it k)
and_then_reading (Gives x) k bytes = refl
and_then_reading (One class next) k [] = refl
and_then_reading {V} {W} (One class next) k (b ∷ bytes) =
    ap (λ (r : Result (W × List ℕ) ℕ). cond (class b) r (Err (suc (length bytes)))) (and_then_reading (next b) k bytes)
    ∙ sym (bind_cond (class b) (reading (next b) bytes) (Err (suc (length bytes))) (behind_it k))
and_then_reading (Or class next other) k [] = and_then_reading other k []
and_then_reading {V} {W} (Or class next other) k (b ∷ bytes) =
    ap (λ (r : Result (W × List ℕ) ℕ). cond (class b) r (reading (and_then other k) (b ∷ bytes))) (and_then_reading (next b) k bytes)
    ∙ ap (λ (r : Result (W × List ℕ) ℕ). cond (class b) (reading (next b) bytes >>= behind_it k) r) (and_then_reading other k (b ∷ bytes))
    ∙ sym (bind_cond (class b) (reading (next b) bytes) (reading other (b ∷ bytes)) (behind_it k))

same_after : {A B : Type 0} (r : Result A ℕ) (f g : A → Result B ℕ) → ((x : A) → f x ≡ g x) → (r >>= f) ≡ (r >>= g)
same_after (Ok x) f g e = e x
same_after (Err left) f g e = refl

-- one behind the other
after : {V W : Type 0} (g : Grammar V) (k : V → Grammar W) (at : List ℕ → Result (V × List ℕ) ℕ) (behind : V → List ℕ → Result (W × List ℕ) ℕ) → IsReading g at → ((v : V) → IsReading (k v) (behind v)) → IsReading (and_then g k) (λ bytes. at bytes >>= λ x. behind x.0 x.1)
after {V} {W} g k at behind e f bytes =
    and_then_reading g k bytes
    ∙ ap (λ (r : Result (V × List ℕ) ℕ). r >>= behind_it k) (e bytes)
    ∙ same_after (at bytes) (behind_it k) (λ x. behind x.0 x.1) (λ x. f x.0 x.1)

one : {V : Type 0} (class : ℕ → Bool) (view : ℕ → V) → IsReading (One class (λ b. Gives (view b))) (one_at class view)
one class view [] = refl
one class view (b ∷ bytes) = refl

same_cond : {A : Type 0} (t : Bool) (r s x y : A) → r ≡ x → s ≡ y → cond t r s ≡ cond t x y
same_cond true r s x y e f = e
same_cond false r s x y e f = f

-- ---- names

abbrev skip_by : Bool → ℕ → List ℕ → Bool × List ℕ
skip_by t b bytes = if t then (true, bytes) else (false, b ∷ bytes)

up_to_step : (t : Bool) (n : ℕ) (c : NameBytes) (b : ℕ) (bytes : List ℕ) (r : Result (Unit {0} × List ℕ) ℕ) → r ≡ Ok (tt, behind_up_to n c bytes)
    → cond t r (Ok (tt, b ∷ bytes)) ≡ Ok (tt, cond (skip_by t b bytes).0 (behind_up_to n c (skip_by t b bytes).1) (skip_by t b bytes).1)
up_to_step true n c b bytes r e = e
up_to_step false n c b bytes r e = refl

up_to_reading : (n : ℕ) (c : NameBytes) → IsReading (up_to n (class_of c)) (λ bytes. Ok (tt, behind_up_to n c bytes))
up_to_reading zero c bytes = refl
up_to_reading (suc n) c [] = refl
up_to_reading (suc n) c (b ∷ bytes) = up_to_step (class_of c b) n c b bytes (reading (up_to n (class_of c)) bytes) (up_to_reading n c bytes)

abbrev third : NameBytes → List ℕ → Result (Unit {0} × List ℕ) ℕ
third c bytes = name_byte_at c bytes >>= λ x. Ok (tt, behind_up_to 5 c x.1)

abbrev others : NameBytes → List ℕ → Result (Unit {0} × List ℕ) ℕ
others c bytes = name_byte_at c bytes >>= λ x. third c x.1

three_reading : (c : NameBytes) → IsReading (three_to_eight (class_of c)) (three_to_eight_at c)
three_reading c =
    after (One (class_of c) (λ b. Gives tt)) (λ x. One (class_of c) (λ b. One (class_of c) (λ d. up_to 5 (class_of c)))) (name_byte_at c) (λ x. others c) (one (class_of c) (λ b. tt))
    (λ x. after (One (class_of c) (λ b. Gives tt)) (λ y. One (class_of c) (λ d. up_to 5 (class_of c))) (name_byte_at c) (λ y. third c) (one (class_of c) (λ b. tt))
    (λ y. after (One (class_of c) (λ b. Gives tt)) (λ z. up_to 5 (class_of c)) (name_byte_at c) (λ z bytes. Ok (tt, behind_up_to 5 c bytes)) (one (class_of c) (λ b. tt)) (λ z. up_to_reading 5 c)))

byte_reading : (c : ℕ) → IsReading (byte c) (byte_at c)
byte_reading c = one (λ b. b == c) (λ b. tt)

quoted_reading : IsReading (and_then (three_to_eight is_quoted) (λ n. byte 62)) quoted_at
quoted_reading = after (three_to_eight is_quoted) (λ n. byte 62) (three_to_eight_at Quoted) (λ n. byte_at 62) (three_reading Quoted) (λ n. byte_reading 62)

name_reading : IsReading name name_at
name_reading [] = three_reading Letters []
name_reading (b ∷ bytes) =
    same_cond (b == 60) (reading (and_then (three_to_eight is_quoted) (λ n. byte 62)) bytes) (reading (three_to_eight is_letter) (b ∷ bytes)) (quoted_at bytes) (three_to_eight_at Letters (b ∷ bytes)) (quoted_reading bytes) (three_reading Letters (b ∷ bytes))

-- ---- numbers

digit_reading : (least most : ℕ) → IsReading (digit least most) (digit_at least most)
digit_reading least most = one (within (48 + least) (48 + most)) (λ d. d - 48)

second_reading : (most d : ℕ) → IsReading (Or (is_second most d) (λ b. Gives (10 * d + (b - 48))) (Gives d)) (second_at most d)
second_reading most d [] = refl
second_reading most d (b ∷ bytes) = refl

number_reading : (least most : ℕ) → IsReading (number least most) (number_at least most)
number_reading least most = after (digit least 9) (λ d. Or (is_second most d) (λ b. Gives (10 * d + (b - 48))) (Gives d)) (digit_at least 9) (second_at most) (digit_reading least 9) (second_reading most)

two_digits_reading : IsReading (and_then (digit 0 5) (λ tens. and_then (digit 0 9) (λ ones. Gives (10 * tens + ones)))) two_digits_at
two_digits_reading =
    after (digit 0 5) (λ tens. and_then (digit 0 9) (λ ones. Gives (10 * tens + ones))) (digit_at 0 5) (λ tens bytes. digit_at 0 9 bytes >>= λ ones. Ok (10 * tens + ones.0, ones.1)) (digit_reading 0 5)
    (λ tens. after (digit 0 9) (λ ones. Gives (10 * tens + ones)) (digit_at 0 9) (λ ones bytes. Ok (10 * tens + ones, bytes)) (digit_reading 0 9) (λ ones bytes. refl))

minutes_reading : IsReading minutes minutes_at
minutes_reading [] = refl
minutes_reading (b ∷ bytes) =
    same_cond (b == 58) (reading (and_then (digit 0 5) (λ tens. and_then (digit 0 9) (λ ones. Gives (10 * tens + ones)))) bytes) (Ok (0, b ∷ bytes)) (two_digits_at bytes) (Ok (0, b ∷ bytes)) (two_digits_reading bytes) refl

clock_reading : (most : ℕ) → IsReading (clock most) (clock_at most)
clock_reading most =
    after (number 0 most) (λ hours. and_then minutes (λ m. Gives (3600 * hours + 60 * m))) (number_at 0 most) (λ hours bytes. minutes_at bytes >>= λ m. Ok (3600 * hours + 60 * m.0, m.1)) (number_reading 0 most)
    (λ hours. after minutes (λ m. Gives (3600 * hours + 60 * m)) minutes_at (λ m bytes. Ok (3600 * hours + 60 * m, bytes)) minutes_reading (λ m bytes. refl))

-- ---- zones

west_reading : IsReading west west_at
west_reading = after (clock 14) (λ s. Gives (neg_ℤ (pos s))) (clock_at 14) (λ s bytes. Ok (neg_ℤ (pos s), bytes)) (clock_reading 14) (λ s bytes. refl)

east_reading : IsReading east east_at
east_reading = after (clock 14) (λ s. Gives (pos s)) (clock_at 14) (λ s bytes. Ok (pos s, bytes)) (clock_reading 14) (λ s bytes. refl)

offset_reading : IsReading offset offset_at
offset_reading [] = west_reading []
offset_reading (b ∷ bytes) =
    same_cond (b == 45) (reading east bytes) (cond (b == 43) (reading west bytes) (reading west (b ∷ bytes))) (east_at bytes) (cond (b == 43) (west_at bytes) (west_at (b ∷ bytes))) (east_reading bytes)
    (same_cond (b == 43) (reading west bytes) (reading west (b ∷ bytes)) (west_at bytes) (west_at (b ∷ bytes)) (west_reading bytes) (west_reading (b ∷ bytes)))

one_step : {A : Type 0} (t : Bool) (x y z : A) → cond t x z ≡ cond t (cond t x y) z
one_step true x y z = refl
one_step false x y z = refl

or_step : {A : Type 0} (t u : Bool) (x y z : A) → cond t x (cond u y z) ≡ cond (t || u) (cond t x y) z
or_step true u x y z = refl
or_step false u x y z = refl

-- the first of two is read where its first byte stands
or_else_reading : {V : Type 0} (g h : Grammar V) → GoesOn g → (b : ℕ) (bytes : List ℕ) → reading (or_else g h) (b ∷ bytes) ≡ cond (begins g b) (reading g (b ∷ bytes)) (reading h (b ∷ bytes))
or_else_reading (Gives x) h on b bytes = absurd on
or_else_reading (One class next) h on b bytes = one_step (class b) (reading (next b) bytes) (Err (suc (length bytes))) (reading h (b ∷ bytes))
or_else_reading {V} (Or class next other) h on b bytes =
    ap (λ (r : Result (V × List ℕ) ℕ). cond (class b) (reading (next b) bytes) r) (or_else_reading other h on b bytes)
    ∙ or_step (class b) (begins other b) (reading (next b) bytes) (reading other (b ∷ bytes)) (reading h (b ∷ bytes))

daylight_reading : (standard : ℤ) → IsReading (daylight standard) (daylight_at standard)
daylight_reading standard [] = refl
daylight_reading standard (b ∷ bytes) =
    or_else_reading offset (Gives (standard +ℤ pos 3600)) tt b bytes
    ∙ ap (λ (r : Result (ℤ × List ℕ) ℕ). cond (begins_offset b) r (Ok (standard +ℤ pos 3600, b ∷ bytes))) (offset_reading (b ∷ bytes))

time_reading : IsReading time time_at
time_reading [] = refl
time_reading (b ∷ bytes) = same_cond (b == 47) (reading (clock 24) bytes) (Ok (7200, b ∷ bytes)) (clock_at 24 bytes) (Ok (7200, b ∷ bytes)) (clock_reading 24 bytes) refl

-- ---- the parts of a rule from its time back to its month

abbrev change : ℕ → ℕ → ℕ → ℕ → Change
change month week day time = record { month = month; week = week; day = day; time = time }

abbrev from_time : ℕ → ℕ → ℕ → Grammar Change
from_time month week day = and_then time (λ time. Gives (change month week day time))

abbrev from_time_at : ℕ → ℕ → ℕ → List ℕ → Result (Change × List ℕ) ℕ
from_time_at month week day bytes = time_at bytes >>= λ time. Ok (change month week day time.0, time.1)

from_time_reading : (month week day : ℕ) → IsReading (from_time month week day) (from_time_at month week day)
from_time_reading month week day = after time (λ time. Gives (change month week day time)) time_at (λ time bytes. Ok (change month week day time, bytes)) time_reading (λ time bytes. refl)

abbrev from_day : ℕ → ℕ → Grammar Change
from_day month week = and_then (digit 0 6) (from_time month week)

abbrev from_day_at : ℕ → ℕ → List ℕ → Result (Change × List ℕ) ℕ
from_day_at month week bytes = digit_at 0 6 bytes >>= λ day. from_time_at month week day.0 day.1

from_day_reading : (month week : ℕ) → IsReading (from_day month week) (from_day_at month week)
from_day_reading month week = after (digit 0 6) (from_time month week) (digit_at 0 6) (from_time_at month week) (digit_reading 0 6) (from_time_reading month week)

abbrev behind_byte : {V : Type 0} → ℕ → (List ℕ → Result (V × List ℕ) ℕ) → List ℕ → Result (V × List ℕ) ℕ
behind_byte c at bytes = byte_at c bytes >>= λ x. at x.1

behind_byte_reading : {V : Type 0} (c : ℕ) (g : Grammar V) (at : List ℕ → Result (V × List ℕ) ℕ) → IsReading g at → IsReading (and_then (byte c) (λ x. g)) (behind_byte c at)
behind_byte_reading c g at e = after (byte c) (λ x. g) (byte_at c) (λ x. at) (byte_reading c) (λ x. e)

abbrev from_week : ℕ → Grammar Change
from_week month = and_then (digit 1 5) (λ week. and_then (byte 46) (λ q. from_day month week))

abbrev from_week_at : ℕ → List ℕ → Result (Change × List ℕ) ℕ
from_week_at month bytes = digit_at 1 5 bytes >>= λ week. behind_byte 46 (from_day_at month week.0) week.1

from_week_reading : (month : ℕ) → IsReading (from_week month) (from_week_at month)
from_week_reading month =
    after (digit 1 5) (λ week. and_then (byte 46) (λ q. from_day month week)) (digit_at 1 5) (λ week. behind_byte 46 (from_day_at month week)) (digit_reading 1 5)
    (λ week. behind_byte_reading 46 (from_day month week) (from_day_at month week) (from_day_reading month week))

abbrev from_month : Grammar Change
from_month = and_then (number 1 12) (λ month. and_then (byte 46) (λ p. from_week month))

abbrev from_month_at : List ℕ → Result (Change × List ℕ) ℕ
from_month_at bytes = number_at 1 12 bytes >>= λ month. behind_byte 46 (from_week_at month.0) month.1

from_month_reading : IsReading from_month from_month_at
from_month_reading =
    after (number 1 12) (λ month. and_then (byte 46) (λ p. from_week month)) (number_at 1 12) (λ month. behind_byte 46 (from_week_at month)) (number_reading 1 12)
    (λ month. behind_byte_reading 46 (from_week month) (from_week_at month) (from_week_reading month))

rule_reading : IsReading rule rule_at
rule_reading = behind_byte_reading 77 from_month from_month_at from_month_reading

-- ---- the parts of a zone text from its last rule back to its name

abbrev moves : ℤ → ℤ → Change → Change → Zone
moves standard daylight begin end = record { standard = standard; rules = Some (record { daylight = daylight; begin = begin; end = end }) }

abbrev from_end : ℤ → ℤ → Change → Grammar Zone
from_end standard daylight begin = and_then rule (λ end. Gives (moves standard daylight begin end))

abbrev from_end_at : ℤ → ℤ → Change → List ℕ → Result (Zone × List ℕ) ℕ
from_end_at standard daylight begin bytes = rule_at bytes >>= λ end. Ok (moves standard daylight begin end.0, end.1)

from_end_reading : (standard daylight : ℤ) (begin : Change) → IsReading (from_end standard daylight begin) (from_end_at standard daylight begin)
from_end_reading standard daylight begin =
    after rule (λ end. Gives (moves standard daylight begin end)) rule_at (λ end bytes. Ok (moves standard daylight begin end, bytes)) rule_reading (λ end bytes. refl)

abbrev from_begin : ℤ → ℤ → Grammar Zone
from_begin standard daylight = and_then rule (λ begin. and_then (byte 44) (λ q. from_end standard daylight begin))

abbrev from_begin_at : ℤ → ℤ → List ℕ → Result (Zone × List ℕ) ℕ
from_begin_at standard daylight bytes = rule_at bytes >>= λ begin. behind_byte 44 (from_end_at standard daylight begin.0) begin.1

from_begin_reading : (standard daylight : ℤ) → IsReading (from_begin standard daylight) (from_begin_at standard daylight)
from_begin_reading standard daylight =
    after rule (λ begin. and_then (byte 44) (λ q. from_end standard daylight begin)) rule_at (λ begin. behind_byte 44 (from_end_at standard daylight begin)) rule_reading
    (λ begin. behind_byte_reading 44 (from_end standard daylight begin) (from_end_at standard daylight begin) (from_end_reading standard daylight begin))

abbrev from_daylight : ℤ → Grammar Zone
from_daylight standard = and_then (daylight standard) (λ daylight. and_then (byte 44) (λ p. from_begin standard daylight))

abbrev from_daylight_at : ℤ → List ℕ → Result (Zone × List ℕ) ℕ
from_daylight_at standard bytes = daylight_at standard bytes >>= λ daylight. behind_byte 44 (from_begin_at standard daylight.0) daylight.1

from_daylight_reading : (standard : ℤ) → IsReading (from_daylight standard) (from_daylight_at standard)
from_daylight_reading standard =
    after (daylight standard) (λ daylight. and_then (byte 44) (λ p. from_begin standard daylight)) (daylight_at standard) (λ daylight. behind_byte 44 (from_begin_at standard daylight)) (daylight_reading standard)
    (λ daylight. behind_byte_reading 44 (from_begin standard daylight) (from_begin_at standard daylight) (from_begin_reading standard daylight))

moved_reading : (standard : ℤ) → IsReading (moved standard) (moved_at standard)
moved_reading standard = after name (λ n. from_daylight standard) name_at (λ n. from_daylight_at standard) name_reading (λ n. from_daylight_reading standard)

abbrev moved_or_fixed : ℤ → Grammar Zone
moved_or_fixed standard = or_else (moved standard) (Gives (fixed standard))

moved_or_fixed_reading : (standard : ℤ) → IsReading (moved_or_fixed standard) (moved_or_fixed_at standard)
moved_or_fixed_reading standard [] = refl
moved_or_fixed_reading standard (b ∷ bytes) =
    or_else_reading (moved standard) (Gives (fixed standard)) tt b bytes
    ∙ ap (λ (r : Result (Zone × List ℕ) ℕ). cond (begins_name b) r (Ok (fixed standard, b ∷ bytes))) (moved_reading standard (b ∷ bytes))

abbrev from_offset_at : List ℕ → Result (Zone × List ℕ) ℕ
from_offset_at bytes = offset_at bytes >>= λ standard. moved_or_fixed_at standard.0 standard.1

from_offset_reading : IsReading (and_then offset moved_or_fixed) from_offset_at
from_offset_reading = after offset moved_or_fixed offset_at moved_or_fixed_at offset_reading moved_or_fixed_reading

pub zone_reading : (bytes : List ℕ) → reading zone_text bytes ≡ zone_at bytes
zone_reading = after name (λ n. and_then offset moved_or_fixed) name_at (λ n. from_offset_at) name_reading (λ n. from_offset_reading)

pub zone_whole : (bytes : List ℕ) → whole zone_text bytes ≡ (zone_at bytes >>= at_end)
zone_whole bytes = ap (λ (r : Result (Zone × List ℕ) ℕ). r >>= at_end) (zone_reading bytes)
