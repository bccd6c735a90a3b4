-- The bytes of values and numbers.
use Rattle.std.proofs.Common.{◌≡◌, ℕ, zero, suc, ◌-◌, ◌<◌, Bool, true, false, not, ◌&&◌, ◌||◌, nat_eq, nat_lt, Option, Some, None, List, [], ◌∷◌, ◌++◌, length, get_or, refl, ap, ◌∙◌, arith, inl, inr, ◌⊎◌, if◌then◌else◌}
use Rattle.std.specs.Prelude.{nat_le}
use Rattle.std.specs.List.{list_all}
use Rattle.std.specs.Char.{is_ascii_digit, to_ascii_uppercase}
use Rattle.std.proofs.lemmas.Bool.Decides.{nat_tests}
use Rattle.cron_schedule.specs.Field.{least, greatest}
use Rattle.cron_schedule.specs.Number.{is_number, number_of}
use Rattle.cron_schedule.specs.Reading.{is_letter_at, is_name, month_named, weekday_named, named, within, first_of, value_of}
use Rattle.cron_schedule.proofs.FirstLemmas.{cases_test}
use Rattle.cron_schedule.proofs.SplitLemmas.{lacks}

abbrev pub is_capital : ℕ → Bool
is_capital byte = nat_le 65 (to_ascii_uppercase byte) && nat_le (to_ascii_uppercase byte) 90

-- a byte of a number or a name
abbrev pub is_word : ℕ → Bool
is_word byte = is_ascii_digit byte || is_capital byte

left_true : (a b : Bool) → (a && b) ≡ true → a ≡ true
left_true true b e = refl
left_true false b e = cc

right_true : (a b : Bool) → (a && b) ≡ true → b ≡ true
right_true true b e = e
right_true false b e = cc

both_true : (a b : Bool) → a ≡ true → b ≡ true → (a && b) ≡ true
both_true a b e f = rw (e, f)

-- what each byte passes, it passes by a weaker test too
pub list_all-weaker : (p q : ℕ → Bool) → ((b : ℕ) → p b ≡ true → q b ≡ true) → (text : List ℕ) → list_all p text ≡ true → list_all q text ≡ true
list_all-weaker p q h [] e = refl
list_all-weaker p q h (b ∷ bs) e =
    both_true (q b) (list_all q bs) (h b (left_true (p b) (list_all p bs) e)) (list_all-weaker p q h bs (right_true (p b) (list_all p bs) e))

pub list_all-both : (p : ℕ → Bool) (a : List ℕ) (x : ℕ) (s : List ℕ) → list_all p a ≡ true → p x ≡ true → list_all p s ≡ true → list_all p (a ++ x ∷ s) ≡ true
list_all-both p [] x s e f g = both_true (p x) (list_all p s) f g
list_all-both p (b ∷ bs) x s e f g =
    both_true (p b) (list_all p (bs ++ x ∷ s)) (left_true (p b) (list_all p bs) e) (list_all-both p bs x s (right_true (p b) (list_all p bs) e) f g)

-- a byte that does not pass is not there
pub lacks-by : (p : ℕ → Bool) (byte : ℕ) → p byte ≡ false → (text : List ℕ) → list_all p text ≡ true → lacks byte text ≡ true
lacks-by p byte none [] e = refl
lacks-by p byte none (b ∷ bs) e =
    both_true (not (nat_eq b byte)) (lacks byte bs)
    (elim (cases_test (nat_eq b byte)) [
      | inl equal ↦
          let is : b ≡ byte = eq_true b byte equal in
          let passes : p b ≡ true = left_true (p b) (list_all p bs) e in
          let fails : p b ≡ false = ap p is ∙ none in
          cc
      | inr other ↦ rw other
    ])
    (lacks-by p byte none bs (right_true (p b) (list_all p bs) e))
  where
    eq_true : (a b : ℕ) → nat_eq a b ≡ true → a ≡ b
    eq_true a b e = grind (arith, nat_tests)

-- a byte at any place passes, or the place is past the end
pub get_or-passes : (p : ℕ → Bool) (text : List ℕ) (i : ℕ) → p 0 ≡ true → list_all p text ≡ true → p (get_or text i 0) ≡ true
get_or-passes p [] i zero_passes e = zero_passes
get_or-passes p (b ∷ bs) zero zero_passes e = left_true (p b) (list_all p bs) e
get_or-passes p (b ∷ bs) (suc i) zero_passes e = get_or-passes p bs i zero_passes (right_true (p b) (list_all p bs) e)

number_cases : (t : Bool) (n v : ℕ) → (if t then Some n else None) ≡ Some v → t ≡ true
number_cases true n v e = refl
number_cases false n v e = cc

-- a number has digits, and at least one
pub number_of-digits : (k : ℕ) (text : List ℕ) (n : ℕ) → number_of k text ≡ Some n → (list_all is_ascii_digit text ≡ true) × (0 < length text)
number_of-digits k text n e =
    let test : is_number k text ≡ true = number_cases (is_number k text) _ n e in
    let bounds = left_true (nat_le 1 (length text) && nat_le (length text) k) (list_all is_ascii_digit text) test in
    let some = left_true (nat_le 1 (length text)) (nat_le (length text) k) bounds in
    (right_true (nat_le 1 (length text) && nat_le (length text) k) (list_all is_ascii_digit text) test, at_least_one (length text) some)
  where
    at_least_one : (m : ℕ) → nat_le 1 m ≡ true → 0 < m
    at_least_one m e = grind (arith, nat_tests)

pub within_some : (low high : ℕ) (x : Option ℕ) (v : ℕ) → within low high x ≡ Some v → x ≡ Some v
within_some low high None v e = cc
within_some low high (Some n) v e =
    elim (cases_test (nat_le low n && nat_le n high)) [
      | inl inside ↦ rw inside at e
      | inr outside ↦ (let none : within low high (Some n) ≡ None = rw outside in cc)
    ]

digit_is_word : (b : ℕ) → is_ascii_digit b ≡ true → is_word b ≡ true
digit_is_word b e = rw e

-- a text of three letters
abbrev pub is_three : List ℕ → Bool
is_three text = nat_eq (length text) 3 && is_capital (get_or text 0 0) && is_capital (get_or text 1 0) && is_capital (get_or text 2 0)

capital_by : (b letter : ℕ) → nat_eq (to_ascii_uppercase b) letter ≡ true → (nat_le 65 letter && nat_le letter 90) ≡ true → is_capital b ≡ true
capital_by b letter e h = let is : to_ascii_uppercase b ≡ letter = eq_true _ letter e in rw is h
  where
    eq_true : (a b : ℕ) → nat_eq a b ≡ true → a ≡ b
    eq_true a b e = grind (arith, nat_tests)

abbrev letters : ℕ → ℕ → ℕ → Bool
letters x y z = (nat_le 65 x && nat_le x 90) && (nat_le 65 y && nat_le y 90) && (nat_le 65 z && nat_le z 90)

name_three : (x y z : ℕ) (text : List ℕ) → letters x y z ≡ true → is_name (x ∷ y ∷ z ∷ []) text ≡ true → is_three text ≡ true
name_three x y z text ls e =
    let long = nat_eq (length text) 3 in
    let a = is_letter_at text 0 x in
    let b = is_letter_at text 1 y in
    let c = is_letter_at text 2 z in
    let abc = left_true (long && a && b) c e in
    let ab = left_true (long && a) b abc in
    let lx = nat_le 65 x && nat_le x 90 in
    let ly = nat_le 65 y && nat_le y 90 in
    let lz = nat_le 65 z && nat_le z 90 in
    let lxy = left_true (lx && ly) lz ls in
    both_true (long && is_capital (get_or text 0 0) && is_capital (get_or text 1 0)) (is_capital (get_or text 2 0))
    (both_true (long && is_capital (get_or text 0 0)) (is_capital (get_or text 1 0))
    (both_true long (is_capital (get_or text 0 0)) (left_true long a ab) (capital_by (get_or text 0 0) x (right_true long a ab) (left_true lx ly lxy)))
    (capital_by (get_or text 1 0) y (right_true (long && a) b abc) (right_true lx ly lxy)))
    (capital_by (get_or text 2 0) z (right_true (long && a && b) c e) (right_true (lx && ly) lz ls))

not_name : (x y z : ℕ) (text : List ℕ) → letters x y z ≡ true → is_three text ≡ false → is_name (x ∷ y ∷ z ∷ []) text ≡ false
not_name x y z text ls none =
    elim (cases_test (is_name (x ∷ y ∷ z ∷ []) text)) [
      | inr other ↦ other
      | inl is ↦ (let three : is_three text ≡ true = name_three x y z text ls is in cc)
    ]

pub month_named-three : (text : List ℕ) (v : ℕ) → month_named text ≡ Some v → is_three text ≡ true
month_named-three text v e =
    elim (cases_test (is_three text)) [
      | inl three ↦ three
      | inr other ↦
          let none : month_named text ≡ None = rw (not_name 74 65 78 text refl other, not_name 70 69 66 text refl other, not_name 77 65 82 text refl other, not_name 65 80 82 text refl other, not_name 77 65 89 text refl other, not_name 74 85 78 text refl other, not_name 74 85 76 text refl other, not_name 65 85 71 text refl other, not_name 83 69 80 text refl other, not_name 79 67 84 text refl other, not_name 78 79 86 text refl other, not_name 68 69 67 text refl other) in
          cc
    ]

pub weekday_named-three : (text : List ℕ) (v : ℕ) → weekday_named text ≡ Some v → is_three text ≡ true
weekday_named-three text v e =
    elim (cases_test (is_three text)) [
      | inl three ↦ three
      | inr other ↦
          let none : weekday_named text ≡ None = rw (not_name 83 85 78 text refl other, not_name 77 79 78 text refl other, not_name 84 85 69 text refl other, not_name 87 69 68 text refl other, not_name 84 72 85 text refl other, not_name 70 82 73 text refl other, not_name 83 65 84 text refl other) in
          cc
    ]

capital_is_word : (b : ℕ) → is_capital b ≡ true → is_word b ≡ true
capital_is_word b e = elim (cases_test (is_ascii_digit b)) [
  | inl digit ↦ rw digit
  | inr other ↦ rw other e
]

three_words : (text : List ℕ) → is_three text ≡ true → (list_all is_word text ≡ true) × (length text ≡ 3)
three_words [] e = cc
three_words (a ∷ []) e = cc
three_words (a ∷ b ∷ []) e = cc
three_words (a ∷ b ∷ c ∷ []) e =
    let abc = left_true (is_capital a && is_capital b) (is_capital c) e in (
      both_true (is_word a) (is_word b && (is_word c && true)) (capital_is_word a (left_true (is_capital a) (is_capital b) abc))
          (both_true (is_word b) (is_word c && true) (capital_is_word b (right_true (is_capital a) (is_capital b) abc))
          (both_true (is_word c) true (capital_is_word c (right_true (is_capital a && is_capital b) (is_capital c) e)) refl)),
      refl,
    )
three_words (a ∷ b ∷ c ∷ d ∷ text) e =
    let long : nat_eq (length (a ∷ b ∷ c ∷ d ∷ text)) 3 ≡ false = four_long (length text) in
    let none : is_three (a ∷ b ∷ c ∷ d ∷ text) ≡ false = rw long in
    cc
  where
    four_long : (n : ℕ) → nat_eq (suc (suc (suc (suc n)))) 3 ≡ false
    four_long n = grind (arith, nat_tests)

first_of_some : (x y : Option ℕ) (v : ℕ) → first_of x y ≡ Some v → (x ≡ Some v) ⊎ (y ≡ Some v)
first_of_some None y v e = inr e
first_of_some (Some n) y v e = inl e

named_three : (field : ℕ) (text : List ℕ) (v : ℕ) → named field text ≡ Some v → is_three text ≡ true
named_three field text v e =
    elim (cases_test (nat_eq field 5)) [
      | inl month ↦ month_named-three text v (rw month at e)
      | inr other ↦ elim (cases_test (nat_eq field 6)) [
        | inl weekday ↦ weekday_named-three text v (rw (other, weekday) at e)
        | inr none ↦ (let said : None ≡ Some v = rw (other, none) at e in cc)
      ]
    ]

-- a value has bytes of numbers or names, and at least one
pub value_of-words : (field : ℕ) (text : List ℕ) (v : ℕ) → value_of field text ≡ Some v → (list_all is_word text ≡ true) × (0 < length text)
value_of-words field text v e =
    elim (first_of_some (within (least field) (greatest field) (number_of 4 text)) (named field text) v e) [
      | inl number ↦
          let digits = number_of-digits 4 text v (within_some (least field) (greatest field) (number_of 4 text) v number) in
          (list_all-weaker is_ascii_digit is_word digit_is_word text digits.0, digits.1)
      | inr name ↦
          let three = three_words text (named_three field text v name) in
          (three.0, omega (arith, three.1))
    ]

-- a value of the days of month has digits alone
pub value_of-days : (text : List ℕ) (v : ℕ) → value_of 4 text ≡ Some v → (list_all is_ascii_digit text ≡ true) × (0 < length text)
value_of-days text v e =
    elim (first_of_some (within 1 31 (number_of 4 text)) None v e) [
      | inl number ↦ number_of-digits 4 text v (within_some 1 31 (number_of 4 text) v number)
      | inr name ↦ cc
    ]

-- a digit is no letter
abbrev pub is_low : ℕ → Bool
is_low byte = nat_lt byte 64

digit_is_low : (b : ℕ) → is_ascii_digit b ≡ true → is_low b ≡ true
digit_is_low b e = grind (arith, nat_tests)

low_no_letter : (b letter : ℕ) → is_low b ≡ true → 64 < letter → nat_eq (to_ascii_uppercase b) letter ≡ false
low_no_letter b letter e h = grind (arith, nat_tests)

-- in a text of such bytes there is no letter at any place
pub low-no_letter : (text : List ℕ) (i letter : ℕ) → list_all is_low text ≡ true → 64 < letter → is_letter_at text i letter ≡ false
low-no_letter text i letter e h = low_no_letter (get_or text i 0) letter (get_or-passes is_low text i refl e) h

pub digits-low : (text : List ℕ) → list_all is_ascii_digit text ≡ true → list_all is_low text ≡ true
digits-low text e = list_all-weaker is_ascii_digit is_low digit_is_low text e

-- no name of a weekday ends with L
not_l : (x y z : ℕ) (text : List ℕ) → is_letter_at text 2 76 ≡ true → nat_eq z 76 ≡ false → is_name (x ∷ y ∷ z ∷ []) text ≡ false
not_l x y z text ends other =
    elim (cases_test (is_name (x ∷ y ∷ z ∷ []) text)) [
      | inr no_name ↦ no_name
      | inl is ↦
          let third : is_letter_at text 2 z ≡ true = right_true (nat_eq (length text) 3 && is_letter_at text 0 x && is_letter_at text 1 y) (is_letter_at text 2 z) is in
          let both : nat_eq z 76 ≡ true = two_letters (to_ascii_uppercase (get_or text 2 0)) z ends third in
          cc
    ]
  where
    two_letters : (u z : ℕ) → nat_eq u 76 ≡ true → nat_eq u z ≡ true → nat_eq z 76 ≡ true
    two_letters u z e f = grind (arith, nat_tests)

weekday_named-last : (text : List ℕ) (v : ℕ) → weekday_named text ≡ Some v → is_letter_at text 2 76 ≡ false
weekday_named-last text v e =
    elim (cases_test (is_letter_at text 2 76)) [
      | inr other ↦ other
      | inl ends ↦
          let none : weekday_named text ≡ None = rw (not_l 83 85 78 text ends refl, not_l 77 79 78 text ends refl, not_l 84 85 69 text ends refl, not_l 87 69 68 text ends refl, not_l 84 72 85 text ends refl, not_l 70 82 73 text ends refl, not_l 83 65 84 text ends refl) in
          cc
    ]

-- no value of the days of week ends with L
pub value_of-weekday_last : (text : List ℕ) (v : ℕ) → value_of 6 text ≡ Some v → is_letter_at text (length text - 1) 76 ≡ false
value_of-weekday_last text v e =
    elim (first_of_some (within 1 7 (number_of 4 text)) (weekday_named text) v e) [
      | inl number ↦
          let digits = number_of-digits 4 text v (within_some 1 7 (number_of 4 text) v number) in
          low-no_letter text (length text - 1) 76 (digits-low text digits.0) (omega arith)
      | inr name ↦
          let three = three_words text (weekday_named-three text v name) in
          let last : length text - 1 ≡ 2 = omega (arith, three.1) in
          rw last (weekday_named-last text v name)
    ]
