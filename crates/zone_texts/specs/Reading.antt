-- Reading the parts of a zone text one after the other.
use Rattle.std.specs.Prelude.{◌≡◌, ℕ, zero, suc, ◌+◌, ◌-◌, ◌*◌, ℤ, pos, neg_ℤ, ◌+ℤ◌, Bool, true, false, ◌||◌, ◌==◌, if◌then◌else◌, List, [], ◌∷◌, length, Some, Result, Ok, Err}
use Rattle.zone_texts.specs.declared.zone.Zone.{Zone}
use Rattle.zone_texts.specs.declared.reading.NameBytes.{NameBytes}
use Rattle.zone_texts.specs.declared.reading.NameBytes.TheVariants.{Letters, Quoted}
use Rattle.zone_texts.specs.Changes.{Change}
use Rattle.zone_texts.specs.Grammar.{◌>>=◌, at_end}
use Rattle.zone_texts.specs.ZoneText.{within, is_digit, is_letter, is_quoted, is_second, fixed}

-- what a reader returned, seen by view, and the bytes that it left
abbrev pub Takes : {X Y : Type 0} → (X → Y) → Result X ℕ → List ℕ → Result (Y × List ℕ) ℕ → Type 0
Takes view (Ok x) rest read = read ≡ Ok (view x, rest)
Takes view (Err left) rest read = read ≡ Err left

-- a byte of the class, seen by a function
abbrev pub one_at : {V : Type 0} → (ℕ → Bool) → (ℕ → V) → List ℕ → Result (V × List ℕ) ℕ
one_at class view [] = Err 0
one_at class view (b ∷ bytes) = if class b then Ok (view b, bytes) else Err (suc (length bytes))

-- ---- names

abbrev pub class_of : NameBytes → ℕ → Bool
class_of Letters b = is_letter b
class_of Quoted b = is_quoted b

abbrev pub name_byte_at : NameBytes → List ℕ → Result (Unit {0} × List ℕ) ℕ
name_byte_at class bytes = one_at (class_of class) (λ b. tt) bytes

abbrev pub byte_at : ℕ → List ℕ → Result (Unit {0} × List ℕ) ℕ
byte_at c bytes = one_at (λ b. b == c) (λ b. tt) bytes

-- whether a byte of the class stands in front, and the bytes behind it if so
abbrev pub skipped : NameBytes → List ℕ → Bool × List ℕ
skipped class [] = (false, [])
skipped class (b ∷ bytes) = if class_of class b then (true, bytes) else (false, b ∷ bytes)

-- the bytes behind at most so many bytes of the class
abbrev pub behind_up_to : ℕ → NameBytes → List ℕ → List ℕ
behind_up_to zero class bytes = bytes
behind_up_to (suc n) class bytes = if (skipped class bytes).0 then behind_up_to n class (skipped class bytes).1 else (skipped class bytes).1

abbrev pub three_to_eight_at : NameBytes → List ℕ → Result (Unit {0} × List ℕ) ℕ
three_to_eight_at class bytes = name_byte_at class bytes >>= λ a. (name_byte_at class a.1 >>= λ b. (name_byte_at class b.1 >>= λ c. Ok (tt, behind_up_to 5 class c.1)))

abbrev pub quoted_at : List ℕ → Result (Unit {0} × List ℕ) ℕ
quoted_at bytes = three_to_eight_at Quoted bytes >>= λ n. byte_at 62 n.1

abbrev pub name_at : List ℕ → Result (Unit {0} × List ℕ) ℕ
name_at [] = three_to_eight_at Letters []
name_at (b ∷ bytes) = if b == 60 then quoted_at bytes else three_to_eight_at Letters (b ∷ bytes)

-- ---- numbers

abbrev pub digit_at : ℕ → ℕ → List ℕ → Result (ℕ × List ℕ) ℕ
digit_at least most bytes = one_at (within (48 + least) (48 + most)) (λ d. d - 48) bytes

abbrev pub second_at : ℕ → ℕ → List ℕ → Result (ℕ × List ℕ) ℕ
second_at most d [] = Ok (d, [])
second_at most d (b ∷ bytes) = if is_second most d b then Ok (10 * d + (b - 48), bytes) else Ok (d, b ∷ bytes)

abbrev pub number_at : ℕ → ℕ → List ℕ → Result (ℕ × List ℕ) ℕ
number_at least most bytes = digit_at least 9 bytes >>= λ d. second_at most d.0 d.1

abbrev pub two_digits_at : List ℕ → Result (ℕ × List ℕ) ℕ
two_digits_at bytes = digit_at 0 5 bytes >>= λ tens. (digit_at 0 9 tens.1 >>= λ ones. Ok (10 * tens.0 + ones.0, ones.1))

abbrev pub minutes_at : List ℕ → Result (ℕ × List ℕ) ℕ
minutes_at [] = Ok (0, [])
minutes_at (b ∷ bytes) = if b == 58 then two_digits_at bytes else Ok (0, b ∷ bytes)

abbrev pub clock_at : ℕ → List ℕ → Result (ℕ × List ℕ) ℕ
clock_at most bytes = number_at 0 most bytes >>= λ hours. (minutes_at hours.1 >>= λ m. Ok (3600 * hours.0 + 60 * m.0, m.1))

-- ---- zones

abbrev pub west_at : List ℕ → Result (ℤ × List ℕ) ℕ
west_at bytes = clock_at 14 bytes >>= λ seconds. Ok (neg_ℤ (pos seconds.0), seconds.1)

abbrev pub east_at : List ℕ → Result (ℤ × List ℕ) ℕ
east_at bytes = clock_at 14 bytes >>= λ seconds. Ok (pos seconds.0, seconds.1)

abbrev pub offset_at : List ℕ → Result (ℤ × List ℕ) ℕ
offset_at [] = west_at []
offset_at (b ∷ bytes) = if b == 45 then east_at bytes else (if b == 43 then west_at bytes else west_at (b ∷ bytes))

-- some offset begins with this byte
abbrev pub begins_offset : ℕ → Bool
begins_offset b = b == 45 || (b == 43 || is_digit b)

abbrev pub daylight_at : ℤ → List ℕ → Result (ℤ × List ℕ) ℕ
daylight_at standard [] = Ok (standard +ℤ pos 3600, [])
daylight_at standard (b ∷ bytes) = if begins_offset b then offset_at (b ∷ bytes) else Ok (standard +ℤ pos 3600, b ∷ bytes)

abbrev pub time_at : List ℕ → Result (ℕ × List ℕ) ℕ
time_at [] = Ok (7200, [])
time_at (b ∷ bytes) = if b == 47 then clock_at 24 bytes else Ok (7200, b ∷ bytes)

abbrev pub rule_at : List ℕ → Result (Change × List ℕ) ℕ
rule_at bytes =
    byte_at 77 bytes >>= λ m. (number_at 1 12 m.1 >>= λ month.
    (byte_at 46 month.1 >>= λ p. (digit_at 1 5 p.1 >>= λ week.
    (byte_at 46 week.1 >>= λ q. (digit_at 0 6 q.1 >>= λ day.
    (time_at day.1 >>= λ time. Ok (record { month = month.0; week = week.0; day = day.0; time = time.0 }, time.1)))))))

abbrev pub moved_at : ℤ → List ℕ → Result (Zone × List ℕ) ℕ
moved_at standard bytes =
    name_at bytes >>= λ n. (daylight_at standard n.1 >>= λ daylight.
    (byte_at 44 daylight.1 >>= λ p. (rule_at p.1 >>= λ begin.
    (byte_at 44 begin.1 >>= λ q. (rule_at q.1 >>= λ end.
    Ok (record { standard = standard; rules = Some (record { daylight = daylight.0; begin = begin.0; end = end.0 }) }, end.1))))))

-- some name begins with this byte
abbrev pub begins_name : ℕ → Bool
begins_name b = b == 60 || is_letter b

abbrev pub moved_or_fixed_at : ℤ → List ℕ → Result (Zone × List ℕ) ℕ
moved_or_fixed_at standard [] = Ok (fixed standard, [])
moved_or_fixed_at standard (b ∷ bytes) = if begins_name b then moved_at standard (b ∷ bytes) else Ok (fixed standard, b ∷ bytes)

abbrev pub zone_at : List ℕ → Result (Zone × List ℕ) ℕ
zone_at bytes = name_at bytes >>= λ n. (offset_at n.1 >>= λ standard. moved_or_fixed_at standard.0 standard.1)

abbrev pub whole_at : List ℕ → Result Zone ℕ
whole_at bytes = zone_at bytes >>= at_end
