-- In the grammar of zone texts each byte leads one way, and each way leads to a text.
use Rattle.std.proofs.Common.{◌≡◌, ℕ, zero, suc, ◌+◌, ◌-◌, ◌*◌, ℤ, pos, neg_ℤ, ◌+ℤ◌, ◌||◌, ◌==◌, Bool, true, false, nat_le, refl, Some}
use Rattle.std.proofs.lemmas.Bool.{and_parts, or_from}
use Rattle.zone_texts.specs.declared.zone.Zone.{Zone}
use Rattle.zone_texts.specs.Changes.{Change}
use Rattle.zone_texts.specs.Grammar.{Grammar, Gives, and_then, or_else}
use Rattle.zone_texts.specs.ZoneText.{within, is_digit, is_letter, is_quoted, byte, up_to, three_to_eight, name, digit, is_second, number, minutes, clock, west, east, offset, time, rule, daylight, moved, fixed, zone_text}
use Rattle.zone_texts.proofs.GrammarLaws.{begins, Avoids, Clear}
use Rattle.zone_texts.proofs.Apart.{only, letter_no_offset, letter_no_daylight, digit_no_name, digit_no_colon, digit_no_comma, digit_no_dot, quoted_no_end}

up_to_clear : {W : Type 0} (n : ℕ) (class : ℕ → Bool) (k : Grammar W) → Clear k → Avoids class k → Clear (and_then (up_to n class) (λ x. k))
up_to_clear zero class k clear avoids = clear
up_to_clear (suc n) class k clear avoids = ((λ c h. up_to_clear n class k clear avoids), clear, avoids)

three_clear : {W : Type 0} (class : ℕ → Bool) → class 65 ≡ true → (k : Grammar W) → Clear k → Avoids class k → Clear (and_then (three_to_eight class) (λ x. k))
three_clear class h k clear avoids = (65, h, λ a i. (65, h, λ b j. (65, h, λ c l. up_to_clear 5 class k clear avoids)))

name_clear : {W : Type 0} (k : Grammar W) → Clear k → Avoids is_letter k → Clear (and_then name (λ x. k))
name_clear k clear avoids = (
  (λ c h. three_clear is_quoted refl (and_then (byte 62) (λ x. k)) (62, refl, λ b i. clear) quoted_no_end),
  three_clear is_letter refl k clear avoids,
  only is_letter 60 refl,
)

second_digit : (most tens b : ℕ) → is_second most tens b ≡ true → is_digit b ≡ true
second_digit most tens b h = (and_parts (is_digit b) (nat_le (10 * tens + (b - 48)) most) h).0

number_clear : {W : Type 0} (least most : ℕ) (k : ℕ → Grammar W) → within (48 + least) 57 57 ≡ true → ((n : ℕ) → Clear (k n)) → ((n : ℕ) → Avoids is_digit (k n)) → Clear (and_then (number least most) k)
number_clear least most k nine clear avoids =
    (57, nine, λ d h. ((λ b i. clear (10 * (d - 48) + (b - 48))), clear (d - 48), λ b i. avoids (d - 48) b (second_digit most (d - 48) b i)))

abbrev is_colon : ℕ → Bool
is_colon b = b == 58

minutes_clear : {W : Type 0} (k : ℕ → Grammar W) → ((n : ℕ) → Clear (k n)) → Avoids is_colon (k 0) → Clear (and_then minutes k)
minutes_clear k clear avoids = ((λ c h. (48, refl, λ d i. (48, refl, λ e j. clear (10 * (d - 48) + (e - 48))))), clear 0, avoids)

clock_clear : {W : Type 0} (most : ℕ) (k : ℕ → Grammar W) → ((n : ℕ) → Clear (k n)) → ((n : ℕ) → Avoids is_digit (k n)) → ((n : ℕ) → Avoids is_colon (k n)) → Clear (and_then (clock most) k)
clock_clear most k clear digits colons =
    number_clear 0 most (λ hours. and_then minutes (λ m. k (3600 * hours + 60 * m))) refl
    (λ hours. minutes_clear (λ m. k (3600 * hours + 60 * m)) (λ m. clear (3600 * hours + 60 * m)) (colons (3600 * hours + 60 * 0)))
    (λ hours b h. or_from (b == 58) (begins (k (3600 * hours + 60 * 0)) b) (digit_no_colon b h) (digits (3600 * hours + 60 * 0) b h))

west_clear : {W : Type 0} (k : ℤ → Grammar W) → ((z : ℤ) → Clear (k z)) → ((z : ℤ) → Avoids is_digit (k z)) → ((z : ℤ) → Avoids is_colon (k z)) → Clear (and_then west k)
west_clear k clear digits colons = clock_clear 14 (λ s. k (neg_ℤ (pos s))) (λ s. clear (neg_ℤ (pos s))) (λ s. digits (neg_ℤ (pos s))) (λ s. colons (neg_ℤ (pos s)))

east_clear : {W : Type 0} (k : ℤ → Grammar W) → ((z : ℤ) → Clear (k z)) → ((z : ℤ) → Avoids is_digit (k z)) → ((z : ℤ) → Avoids is_colon (k z)) → Clear (and_then east k)
east_clear k clear digits colons = clock_clear 14 (λ s. k (pos s)) (λ s. clear (pos s)) (λ s. digits (pos s)) (λ s. colons (pos s))

offset_clear : {W : Type 0} (k : ℤ → Grammar W) → ((z : ℤ) → Clear (k z)) → ((z : ℤ) → Avoids is_digit (k z)) → ((z : ℤ) → Avoids is_colon (k z)) → Clear (and_then offset k)
offset_clear k clear digits colons = (
  (λ c h. east_clear k clear digits colons),
  ((λ c h. west_clear k clear digits colons), west_clear k clear digits colons, only (within 48 57) 43 refl),
  only (λ b. b == 43 || within 48 57 b) 45 refl,
)

daylight_clear : {W : Type 0} (k : ℤ → Grammar W) (standard : ℤ) → ((z : ℤ) → Clear (k z)) → ((z : ℤ) → Avoids is_digit (k z)) → ((z : ℤ) → Avoids is_colon (k z)) → begins (k (standard +ℤ pos 3600)) 43 ≡ false → begins (k (standard +ℤ pos 3600)) 45 ≡ false → Clear (and_then (daylight standard) k)
daylight_clear k standard clear digits colons no_plus no_minus =
    let w = west_clear k clear digits colons in (
      (λ c h. east_clear k clear digits colons),
      ((λ c h. w), (w.2, clear (standard +ℤ pos 3600), digits (standard +ℤ pos 3600)), only (λ b. within 48 57 b || begins (k (standard +ℤ pos 3600)) b) 43 no_plus),
      only (λ b. b == 43 || (within 48 57 b || begins (k (standard +ℤ pos 3600)) b)) 45 no_minus,
    )

time_clear : {W : Type 0} (k : ℕ → Grammar W) → ((n : ℕ) → Clear (k n)) → ((n : ℕ) → Avoids is_digit (k n)) → ((n : ℕ) → Avoids is_colon (k n)) → begins (k 7200) 47 ≡ false → Clear (and_then time k)
time_clear k clear digits colons no_slash = ((λ c h. clock_clear 24 k clear digits colons), clear 7200, only (begins (k 7200)) 47 no_slash)

abbrev change : ℕ → ℕ → ℕ → ℕ → Change
change month week day time = record { month = month; week = week; day = day; time = time }

rule_clear : {W : Type 0} (k : Change → Grammar W) → ((r : Change) → Clear (k r)) → ((r : Change) → Avoids is_digit (k r)) → ((r : Change) → Avoids is_colon (k r)) → ((r : Change) → begins (k r) 47 ≡ false) → Clear (and_then rule k)
rule_clear k clear digits colons no_slash = (
  77,
  refl,
  λ m h. number_clear 1 12
      (λ month. and_then (byte 46) (λ p. and_then (digit 1 5) (λ week. and_then (byte 46) (λ q. and_then (digit 0 6) (λ day. and_then time (λ time. k (change month week day time))))))) refl
      (λ month. (
        46,
        refl,
        λ p i. (
          49,
          refl,
          λ w j. (
            46,
            refl,
            λ q l. (
              48,
              refl,
              λ d n.
                  time_clear (λ time. k (change month (w - 48) (d - 48) time)) (λ time. clear (change month (w - 48) (d - 48) time)) (λ time. digits (change month (w - 48) (d - 48) time)) (λ time. colons (change month (w - 48) (d - 48) time)) (no_slash (change month (w - 48) (d - 48) 7200)),
            ),
          ),
        ),
      ))
      (λ month. digit_no_dot),
)

abbrev moves : ℤ → ℤ → Change → Change → Zone
moves standard daylight begin end = record { standard = standard; rules = Some (record { daylight = daylight; begin = begin; end = end }) }

-- what stands behind the offset of daylight time
abbrev rules : ℤ → ℤ → Grammar Zone
rules standard daylight = and_then (byte 44) (λ p. and_then rule (λ begin. and_then (byte 44) (λ q. and_then rule (λ end. Gives (moves standard daylight begin end)))))

rules_clear : (standard daylight : ℤ) → Clear (rules standard daylight)
rules_clear standard daylight = (
  44,
  refl,
  λ p h. rule_clear (λ begin. and_then (byte 44) (λ q. and_then rule (λ end. Gives (moves standard daylight begin end))))
      (λ begin. (44, refl, λ q i. rule_clear (λ end. Gives (moves standard daylight begin end)) (λ end. tt) (λ end b j. refl) (λ end b j. refl) (λ end. refl)))
      (λ begin. digit_no_comma) (λ begin. only (λ b. b == 44) 58 refl) (λ begin. refl),
)

moved_clear : (standard : ℤ) → Clear (moved standard)
moved_clear standard =
    name_clear (and_then (daylight standard) (rules standard))
    (daylight_clear (rules standard) standard (rules_clear standard) (λ z. digit_no_comma) (λ z. only (λ b. b == 44) 58 refl) refl refl)
    letter_no_daylight

abbrev moved_or_fixed : ℤ → Grammar Zone
moved_or_fixed standard = or_else (moved standard) (Gives (fixed standard))

moved_or_fixed_clear : (standard : ℤ) → Clear (moved_or_fixed standard)
moved_or_fixed_clear standard =
    let m = moved_clear standard in
    (m.0, (m.1.2, tt, λ b h. refl), only (λ b. is_letter b || false) 60 refl)

pub zone_clear : Clear zone_text
zone_clear =
    name_clear (and_then offset moved_or_fixed)
    (offset_clear moved_or_fixed moved_or_fixed_clear (λ z. digit_no_name) (λ z. only (λ b. b == 60 || (is_letter b || false)) 58 refl))
    letter_no_offset
