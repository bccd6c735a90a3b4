-- The grammar of zone texts.
use Rattle.std.specs.Prelude.{ℕ, zero, suc, ◌+◌, ◌-◌, ◌*◌, ℤ, pos, neg_ℤ, ◌+ℤ◌, Bool, ◌&&◌, ◌||◌, ◌==◌, nat_le, Some, None}
use Rattle.zone_texts.specs.declared.zone.Zone.{Zone}
use Rattle.zone_texts.specs.Changes.{Change}
use Rattle.zone_texts.specs.Grammar.{Grammar, Gives, One, Or, and_then, or_else}

-- ---- bytes

abbrev pub within : ℕ → ℕ → ℕ → Bool
within least most b = nat_le least b && nat_le b most

abbrev pub is_digit : ℕ → Bool
is_digit b = within 48 57 b

abbrev pub is_letter : ℕ → Bool
is_letter b = within 65 90 b || within 97 122 b

-- a letter, a digit, `+` or `-`
abbrev pub is_quoted : ℕ → Bool
is_quoted b = is_letter b || is_digit b || b == 43 || b == 45

-- this byte
abbrev pub byte : ℕ → Grammar (Unit {0})
byte c = One (λ b. b == c) (λ b. Gives tt)

-- what stands behind this byte
abbrev pub behind : {V : Type 0} → ℕ → Grammar V → Grammar V
behind c g = and_then (byte c) (λ b. g)

-- ---- names

-- at most so many bytes of the class
abbrev pub up_to : ℕ → (ℕ → Bool) → Grammar (Unit {0})
up_to zero class = Gives tt
up_to (suc n) class = Or class (λ b. up_to n class) (Gives tt)

-- three to eight bytes of the class
abbrev pub three_to_eight : (ℕ → Bool) → Grammar (Unit {0})
three_to_eight class = One class (λ a. One class (λ b. One class (λ c. up_to 5 class)))

-- letters, or letters, digits and signs between `<` and `>`
abbrev pub name : Grammar (Unit {0})
name = or_else (behind 60 (and_then (three_to_eight is_quoted) (λ n. byte 62))) (three_to_eight is_letter)

-- ---- numbers

-- one digit
abbrev pub digit : ℕ → ℕ → Grammar ℕ
digit least most = One (within (48 + least) (48 + most)) (λ d. Gives (d - 48))

-- a second digit with which the number is not above the most
abbrev pub is_second : ℕ → ℕ → ℕ → Bool
is_second most tens b = is_digit b && nat_le (10 * tens + (b - 48)) most

-- one or two digits up to the most, the first of them not below the least
abbrev pub number : ℕ → ℕ → Grammar ℕ
number least most = and_then (digit least 9) (λ d. Or (is_second most d) (λ b. Gives (10 * d + (b - 48))) (Gives d))

-- two digits from 00 to 59
abbrev pub two_digits : Grammar ℕ
two_digits = and_then (digit 0 5) (λ tens. and_then (digit 0 9) (λ ones. Gives (10 * tens + ones)))

-- two digits behind `:`, or none
abbrev pub minutes : Grammar ℕ
minutes = or_else (behind 58 two_digits) (Gives 0)

-- hours up to the most, and minutes: how many seconds they are
abbrev pub clock : ℕ → Grammar ℕ
clock most = and_then (number 0 most) (λ hours. and_then minutes (λ m. Gives (3600 * hours + 60 * m)))

-- ---- zones

-- seconds east of Greenwich, spelled as hours and minutes west of it
abbrev pub west : Grammar ℤ
west = and_then (clock 14) (λ seconds. Gives (neg_ℤ (pos seconds)))

abbrev pub east : Grammar ℤ
east = and_then (clock 14) (λ seconds. Gives (pos seconds))

abbrev pub offset : Grammar ℤ
offset = or_else (behind 45 east) (or_else (behind 43 west) west)

-- hours up to 24 and minutes behind `/`, or 2 o'clock
abbrev pub time : Grammar ℕ
time = or_else (behind 47 (clock 24)) (Gives 7200)

-- `M`, the month, the week and the day with `.` between them, and the time
abbrev pub rule : Grammar Change
rule =
    behind 77 (and_then (number 1 12) (λ month.
    behind 46 (and_then (digit 1 5) (λ week.
    behind 46 (and_then (digit 0 6) (λ day.
    and_then time (λ time. Gives (record { month = month; week = week; day = day; time = time }))))))))

-- an offset, or one hour east of the standard one
abbrev pub daylight : ℤ → Grammar ℤ
daylight standard = or_else offset (Gives (standard +ℤ pos 3600))

-- the name and the offset of daylight time, and the rules by which it begins and ends, each behind `,`
abbrev pub moved : ℤ → Grammar Zone
moved standard =
    and_then name (λ n. and_then (daylight standard) (λ daylight.
    behind 44 (and_then rule (λ begin.
    behind 44 (and_then rule (λ end.
    Gives (record { standard = standard; rules = Some (record { daylight = daylight; begin = begin; end = end }) })))))))

-- a clock that is never moved
abbrev pub fixed : ℤ → Zone
fixed standard = record { standard = standard; rules = None }

-- a name and an offset, and how the clock is moved or nothing
abbrev pub zone_text : Grammar Zone
zone_text = and_then name (λ n. and_then offset (λ standard. or_else (moved standard) (Gives (fixed standard))))
