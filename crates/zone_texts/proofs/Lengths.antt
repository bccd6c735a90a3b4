-- How long zone texts are.
use Rattle.std.proofs.Common.{◌≡◌, ℕ, zero, suc, ◌≤◌, ◌+◌, ◌-◌, ◌*◌, ℤ, pos, neg_ℤ, ◌+ℤ◌, Bool, List, [], ◌∷◌, ◌++◌, length, Some, Result, Ok, Err, IfErr, sym, ap, arith, length-append, inl, inr}
use Rattle.zone_texts.specs.declared.zone.Zone.{Zone}
use Rattle.zone_texts.specs.Changes.{Change}
use Rattle.zone_texts.specs.Grammar.{Grammar, Gives, One, Or, Says, and_then, or_else, whole}
use Rattle.zone_texts.specs.ZoneText.{is_letter, is_quoted, byte, up_to, three_to_eight, name, digit, number, minutes, clock, west, east, offset, time, rule, daylight, moved, fixed, zone_text}
use Rattle.zone_texts.proofs.GrammarLaws.{stops}
use Rattle.zone_texts.proofs.Clear.{zone_clear}

-- each text of the grammar has at most so many bytes
abbrev Fits : {V : Type 0} → Grammar V → ℕ → Type 0
Fits (Gives x) n = Unit {0}
Fits (One class next) zero = ⊥
Fits (One class next) (suc n) = (b : ℕ) → Fits (next b) n
Fits (Or class next other) zero = ⊥
Fits (Or class next other) (suc n) = ((b : ℕ) → Fits (next b) n) × Fits other (suc n)

one_more : {V : Type 0} (g : Grammar V) (n : ℕ) → Fits g n → Fits g (suc n)
one_more (Gives x) n h = tt
one_more (One class next) zero h = absurd h
one_more (One class next) (suc n) h = λ b. one_more (next b) n (h b)
one_more (Or class next other) zero h = absurd h
one_more (Or class next other) (suc n) h = ((λ b. one_more (next b) n (h.0 b)), one_more other (suc n) h.1)

no_longer : {V : Type 0} (g : Grammar V) (n : ℕ) (v : V) (text : List ℕ) → Fits g n → Says g v text → length text ≤ n
no_longer (Gives x) n v text fits h = omega (arith, ap length h.1)
no_longer (One class next) n v [] fits h = absurd h
no_longer (One class next) zero v (b ∷ text) fits h = absurd fits
no_longer (One class next) (suc n) v (b ∷ text) fits h = let e = no_longer (next b) n v text (fits b) h.1 in omega (arith, e)
no_longer (Or class next other) zero v text fits h = absurd fits
no_longer (Or class next other) (suc n) v [] fits h = omega arith
no_longer (Or class next other) (suc n) v (b ∷ text) fits (inl h) = let e = no_longer (next b) n v text (fits.0 b) h.1 in omega (arith, e)
no_longer (Or class next other) (suc n) v (b ∷ text) fits (inr h) = no_longer other (suc n) v (b ∷ text) fits.1 h

-- so many more
abbrev more : ℕ → ℕ → ℕ
more zero n = n
more (suc i) n = suc (more i n)

with_more : {V : Type 0} (i : ℕ) (g : Grammar V) (n : ℕ) → Fits g n → Fits g (more i n)
with_more zero g n h = h
with_more (suc i) g n h = one_more g (more i n) (with_more i g n h)

up_to_fits : {W : Type 0} (i : ℕ) (class : ℕ → Bool) (k : Grammar W) (n : ℕ) → Fits k n → Fits (and_then (up_to i class) (λ x. k)) (more i n)
up_to_fits zero class k n h = h
up_to_fits (suc i) class k n h = ((λ b. up_to_fits i class k n h), with_more (suc i) k n h)

three_fits : {W : Type 0} (class : ℕ → Bool) (k : Grammar W) (n : ℕ) → Fits k n → Fits (and_then (three_to_eight class) (λ x. k)) (more 8 n)
three_fits class k n h = λ a b c. up_to_fits 5 class k n h

name_fits : {W : Type 0} (k : Grammar W) (n : ℕ) → Fits k n → Fits (and_then name (λ x. k)) (more 10 n)
name_fits k n h = (
  (λ b. three_fits is_quoted (and_then (byte 62) (λ x. k)) (suc n) (λ c. h)),
  with_more 2 (and_then (three_to_eight is_letter) (λ x. k)) (more 8 n) (three_fits is_letter k n h),
)

number_fits : {W : Type 0} (least most : ℕ) (k : ℕ → Grammar W) (n : ℕ) → ((i : ℕ) → Fits (k i) n) → Fits (and_then (number least most) k) (more 2 n)
number_fits least most k n h = λ d. ((λ b. h (10 * (d - 48) + (b - 48))), one_more (k (d - 48)) n (h (d - 48)))

minutes_fits : {W : Type 0} (k : ℕ → Grammar W) (n : ℕ) → ((i : ℕ) → Fits (k i) n) → Fits (and_then minutes k) (more 3 n)
minutes_fits k n h = ((λ b d e. h (10 * (d - 48) + (e - 48))), with_more 3 (k 0) n (h 0))

clock_fits : {W : Type 0} (most : ℕ) (k : ℕ → Grammar W) (n : ℕ) → ((i : ℕ) → Fits (k i) n) → Fits (and_then (clock most) k) (more 5 n)
clock_fits most k n h = number_fits 0 most (λ hours. and_then minutes (λ m. k (3600 * hours + 60 * m))) (more 3 n) (λ hours. minutes_fits (λ m. k (3600 * hours + 60 * m)) n (λ m. h (3600 * hours + 60 * m)))

west_fits : {W : Type 0} (k : ℤ → Grammar W) (n : ℕ) → ((z : ℤ) → Fits (k z) n) → Fits (and_then west k) (more 5 n)
west_fits k n h = clock_fits 14 (λ s. k (neg_ℤ (pos s))) n (λ s. h (neg_ℤ (pos s)))

east_fits : {W : Type 0} (k : ℤ → Grammar W) (n : ℕ) → ((z : ℤ) → Fits (k z) n) → Fits (and_then east k) (more 5 n)
east_fits k n h = clock_fits 14 (λ s. k (pos s)) n (λ s. h (pos s))

offset_fits : {W : Type 0} (k : ℤ → Grammar W) (n : ℕ) → ((z : ℤ) → Fits (k z) n) → Fits (and_then offset k) (more 6 n)
offset_fits k n h = ((λ b. east_fits k n h), ((λ b. west_fits k n h), one_more (and_then west k) (more 5 n) (west_fits k n h)))

daylight_fits : {W : Type 0} (k : ℤ → Grammar W) (standard : ℤ) (n : ℕ) → ((z : ℤ) → Fits (k z) n) → Fits (and_then (daylight standard) k) (more 6 n)
daylight_fits k standard n h =
    ((λ b. east_fits k n h), ((λ b. west_fits k n h), (one_more (and_then west k) (more 5 n) (west_fits k n h), with_more 6 (k (standard +ℤ pos 3600)) n (h (standard +ℤ pos 3600)))))

time_fits : {W : Type 0} (k : ℕ → Grammar W) (n : ℕ) → ((i : ℕ) → Fits (k i) n) → Fits (and_then time k) (more 6 n)
time_fits k n h = ((λ b. clock_fits 24 k n h), with_more 6 (k 7200) n (h 7200))

abbrev change : ℕ → ℕ → ℕ → ℕ → Change
change month week day time = record { month = month; week = week; day = day; time = time }

rule_fits : {W : Type 0} (k : Change → Grammar W) (n : ℕ) → ((r : Change) → Fits (k r) n) → Fits (and_then rule k) (more 13 n)
rule_fits k n h = λ m. number_fits 1 12
    (λ month. and_then (byte 46) (λ p. and_then (digit 1 5) (λ week. and_then (byte 46) (λ q. and_then (digit 0 6) (λ day. and_then time (λ time. k (change month week day time))))))) (more 10 n)
    (λ month p w q d. time_fits (λ time. k (change month (w - 48) (d - 48) time)) n (λ time. h (change month (w - 48) (d - 48) time)))

abbrev moves : ℤ → ℤ → Change → Change → Zone
moves standard daylight begin end = record { standard = standard; rules = Some (record { daylight = daylight; begin = begin; end = end }) }

abbrev rules : ℤ → ℤ → Grammar Zone
rules standard daylight = and_then (byte 44) (λ p. and_then rule (λ begin. and_then (byte 44) (λ q. and_then rule (λ end. Gives (moves standard daylight begin end)))))

rules_fit : (standard daylight : ℤ) → Fits (rules standard daylight) 28
rules_fit standard daylight = λ p. rule_fits (λ begin. and_then (byte 44) (λ q. and_then rule (λ end. Gives (moves standard daylight begin end)))) 14 (λ begin q. rule_fits (λ end. Gives (moves standard daylight begin end)) 0 (λ end. tt))

moved_fits : (standard : ℤ) → Fits (moved standard) 44
moved_fits standard = name_fits (and_then (daylight standard) (rules standard)) 34 (daylight_fits (rules standard) standard 28 (rules_fit standard))

abbrev moved_or_fixed : ℤ → Grammar Zone
moved_or_fixed standard = or_else (moved standard) (Gives (fixed standard))

moved_or_fixed_fits : (standard : ℤ) → Fits (moved_or_fixed standard) 44
moved_or_fixed_fits standard = let m = moved_fits standard in (m.0, (m.1, tt))

zone_fits : Fits zone_text 60
zone_fits = name_fits (and_then offset moved_or_fixed) 50 (offset_fits moved_or_fixed 44 moved_or_fixed_fits)

-- no more bytes are left than there were
left_within : (bytes : List ℕ) (left : ℕ) → whole zone_text bytes ≡ Err left → left ≤ length bytes
left_within bytes left e =
    let s = stops zone_text zone_clear bytes left e in
    omega (arith, ap length s.parts, length-append s.front s.back, s.left_is)

-- a fault is near the front
left_near : (bytes : List ℕ) (left : ℕ) → whole zone_text bytes ≡ Err left → length bytes ≤ left + 60
left_near bytes left e =
    let s = stops zone_text zone_clear bytes left e in
    let short = no_longer zone_text 60 s.begins.0 (s.front ++ s.begins.1) zone_fits s.begins.2 in
    omega (arith, ap length s.parts, length-append s.front s.back, s.left_is, short, length-append s.front s.begins.1)

pub result_within : (bytes : List ℕ) (r : Result Zone ℕ) → r ≡ whole zone_text bytes → IfErr r (λ left. left ≤ length bytes)
result_within bytes (Ok zone) e = tt
result_within bytes (Err left) e = left_within bytes left (sym e)

pub result_near : (bytes : List ℕ) (r : Result Zone ℕ) → r ≡ whole zone_text bytes → IfErr r (λ left. length bytes ≤ left + 60)
result_near bytes (Ok zone) e = tt
result_near bytes (Err left) e = left_near bytes left (sym e)
