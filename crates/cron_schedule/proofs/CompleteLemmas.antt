-- What the grammar gives as an item, the item reader reads.
use Rattle.std.proofs.Common.{◌≡◌, ℕ, suc, ◌-◌, ◌<◌, ◌≤◌, Bool, true, false, ◌&&◌, ◌||◌, nat_eq, nat_lt, Some, None, List, [], ◌∷◌, ◌++◌, length, refl, ap, ◌∙◌, arith, inl, inr, ◌⊎◌, if◌then◌else◌, length-append}
use Rattle.std.specs.List.{list_all}
use Rattle.std.specs.Char.{is_ascii_digit, to_ascii_uppercase}
use Rattle.std.proofs.lemmas.Bool.Decides.{nat_tests}
use Rattle.cron_schedule.specs.declared.item.Item.{Item}
use Rattle.cron_schedule.specs.declared.item.Item.TheVariants.{Last, LastWorkday, Workday, LastWeekday, NthWeekday}
use Rattle.cron_schedule.specs.Field.{greatest, greatest_step}
use Rattle.cron_schedule.specs.Number.{number_of}
use Rattle.cron_schedule.specs.Reading.{is_byte, is_letter_at, run_of, range_of, values_of, day_rule, weekday_rule, rule_of, item_of}
use Rattle.cron_schedule.specs.Grammar.{IsLetter, IsValue, IsStep, IsNumber, run_item, IsRange, IsItem, ReaderIsGrammar}
use Rattle.cron_schedule.specs.Grammar.IsRange.{range, star}
use Rattle.cron_schedule.specs.Grammar.IsItem.{value, values, value_step, values_step, free, last, last_back, last_workday, workday, last_weekday, nth_weekday}
use Rattle.cron_schedule.proofs.FirstLemmas.{cases_test}
use Rattle.cron_schedule.proofs.SplitLemmas.{lacks, lacks_first, lacks-both, last-behind, last-added, first-added, position-lacks, position-behind, take-before, drop-behind}
use Rattle.cron_schedule.proofs.WordLemmas.{is_word, is_low, list_all-weaker, list_all-both, lacks-by, number_of-digits, within_some, value_of-words, value_of-days, low-no_letter, digits-low, value_of-weekday_last}
use Rattle.cron_schedule.proofs.GrammarLemmas.{item_sound}

-- a byte of the values of an item: of a number or a name, `*`, `-` or `/`
abbrev is_part : ℕ → Bool
is_part byte = is_word byte || nat_eq byte 42 || nat_eq byte 45 || nat_eq byte 47

word_is_part : (b : ℕ) → is_word b ≡ true → is_part b ≡ true
word_is_part b e = rw e

words_parts : (text : List ℕ) → list_all is_word text ≡ true → list_all is_part text ≡ true
words_parts text e = list_all-weaker is_word is_part word_is_part text e

low_false : (a b : Bool) → b ≡ false → (a && b) ≡ false
low_false true b e = e
low_false false b e = refl

-- the byte of a text that is one byte is not lacking
is_byte-lacks : (byte : ℕ) (text : List ℕ) → lacks byte text ≡ true → is_byte byte text ≡ false
is_byte-lacks byte [] e = refl
is_byte-lacks byte (b ∷ bs) e = low_false (nat_eq (length (b ∷ bs)) 1) (nat_eq b byte) (lacks_first byte b bs e)

step_words : (field : ℕ) (text : List ℕ) (n : ℕ) → IsStep field text n → (list_all is_ascii_digit text ≡ true) × (0 < length text)
step_words field text n e = number_of-digits 4 text n (within_some 1 (greatest_step field) (number_of 4 text) n e)

-- one value is read as a range of its own
lone_complete : (field : ℕ) (stepped : Bool) (text : List ℕ) (v : ℕ) → IsValue field text v → range_of field stepped text ≡ run_of v (if stepped then greatest field else v) 1
lone_complete field stepped text v is =
    let words = value_of-words field text v is in
    rw (is_byte-lacks 42 text (lacks-by is_word 42 refl text words.0), position-lacks 45 text (lacks-by is_word 45 refl text words.0), is)

in_order : (field from to : ℕ) → (field ≡ 7 → from ≤ to) → (nat_eq field 7 && nat_lt to from) ≡ false
in_order field from to h = grind (arith, nat_tests)

-- a range is read
range_complete : (field : ℕ) (stepped : Bool) (text : List ℕ) (from to : ℕ) → IsRange field text from to → range_of field stepped text ≡ run_of from to 1
range_complete field stepped text from to (range a b cut first second order) =
    let front = value_of-words field a from first in
    let back = value_of-words field b to second in
    let dash = lacks-by is_word 45 refl a front.0 in
    let no_star = lacks-both 42 a 45 b (lacks-by is_word 42 refl a front.0) refl (lacks-by is_word 42 refl b back.0) in
    rw (cut, is_byte-lacks 42 (a ++ 45 ∷ b) no_star, position-behind 45 a b dash, take-before a (45 ∷ b), drop-behind 45 a b, first, second, in_order field from to order)
range_complete field stepped text from to (star cut low high) = rw (cut, low, high)

range_slash : (field : ℕ) (text : List ℕ) (from to : ℕ) → IsRange field text from to → lacks 47 text ≡ true
range_slash field text from to (range a b cut first second order) =
    rw cut (lacks-both 47 a 45 b (lacks-by is_word 47 refl a (value_of-words field a from first).0) refl (lacks-by is_word 47 refl b (value_of-words field b to second).0))
range_slash field text from to (star cut low high) = rw cut

-- a text that is no rule on days and not `?`
record IsPlain (field : ℕ) (text : List ℕ) : Type 0 where
  low : field ≡ 4 → list_all is_low text ≡ true
  no_hash : lacks 35 text ≡ true
  no_mark : lacks 63 text ≡ true
  last : field ≡ 6 → is_letter_at text (length text - 1) 76 ≡ false

value_plain : (field : ℕ) (text : List ℕ) (v : ℕ) → IsValue field text v → IsPlain field text
value_plain field text v is =
    let words = value_of-words field text v is in
    record {
      low = λ four. digits-low text (value_of-days text v (rw four at is)).0;
      no_hash = lacks-by is_word 35 refl text words.0;
      no_mark = lacks-by is_word 63 refl text words.0;
      last = λ six. value_of-weekday_last text v (rw six at is);
    }

joined_plain : (field : ℕ) (a : List ℕ) (x : ℕ) (s : List ℕ) → is_low x ≡ true → nat_eq x 35 ≡ false → nat_eq x 63 ≡ false → 0 < length s → IsPlain field a → IsPlain field s → IsPlain field (a ++ x ∷ s)
joined_plain field a x s low hash mark some h k = record {
  low = λ four. list_all-both is_low a x s (h.low four) low (k.low four);
  no_hash = lacks-both 35 a x s h.no_hash hash k.no_hash;
  no_mark = lacks-both 63 a x s h.no_mark mark k.no_mark;
  last = λ six. ap (λ b. nat_eq (to_ascii_uppercase b) 76) (last-behind a s x some) ∙ k.last six;
}

step_plain : (field : ℕ) (text : List ℕ) (n : ℕ) → IsStep field text n → IsPlain field text
step_plain field text n is =
    let digits = step_words field text n is in
    let words = list_all-weaker is_ascii_digit is_word digit_word text digits.0 in
    record {
      low = λ four. digits-low text digits.0;
      no_hash = lacks-by is_word 35 refl text words;
      no_mark = lacks-by is_word 63 refl text words;
      last = λ six. low-no_letter text (length text - 1) 76 (digits-low text digits.0) (omega arith);
    }
  where
    digit_word : (b : ℕ) → is_ascii_digit b ≡ true → is_word b ≡ true
    digit_word b e = rw e

range_plain : (field : ℕ) (text : List ℕ) (from to : ℕ) → IsRange field text from to → IsPlain field text
range_plain field text from to (range a b cut first second order) =
    rw cut (joined_plain field a 45 b refl refl refl (value_of-words field b to second).1 (value_plain field a from first) (value_plain field b to second))
range_plain field text from to (star cut low high) =
    rw cut (record { low = λ four. refl; no_hash = refl; no_mark = refl; last = λ six. refl })

eq_true : (a b : ℕ) → nat_eq a b ≡ true → a ≡ b
eq_true a b e = grind (arith, nat_tests)

day_rule_none : (text : List ℕ) → list_all is_low text ≡ true → day_rule text ≡ None
day_rule_none text low =
    elim (cases_test (nat_eq (length text) 0)) [
      | inl none ↦ rw none
      | inr some ↦ rw (some, low-no_letter text 0 76 low (omega arith), low-no_letter text (length text - 1) 87 low (omega arith))
    ]

weekday_rule_none : (text : List ℕ) → lacks 35 text ≡ true → is_letter_at text (length text - 1) 76 ≡ false → weekday_rule text ≡ None
weekday_rule_none text hash ends =
    elim (cases_test (nat_eq (length text) 0)) [
      | inl none ↦ rw none
      | inr some ↦ rw (some, ends, position-lacks 35 text hash)
    ]

rule_none : (field : ℕ) (text : List ℕ) → IsPlain field text → rule_of field text ≡ None
rule_none field text h =
    elim (cases_test (nat_eq field 4)) [
      | inl four ↦ rw four (day_rule_none text (h.low (eq_true field 4 four)))
      | inr other ↦ elim (cases_test (nat_eq field 6)) [
        | inl six ↦ rw (other, six) (weekday_rule_none text h.no_hash (h.last (eq_true field 6 six)))
        | inr none ↦ rw (other, none)
      ]
    ]

plain_item : (field : ℕ) (text : List ℕ) (item : Item) → IsPlain field text → values_of field text ≡ Some item → item_of field text ≡ Some item
plain_item field text item h e =
    rw (low_false (nat_eq field 4 || nat_eq field 6) (is_byte 63 text) (is_byte-lacks 63 text h.no_mark), rule_none field text h) e

long_test : (n : ℕ) → nat_eq (suc (suc n)) 1 ≡ false
long_test n = grind (arith, nat_tests)

more_than : (n : ℕ) → 1 < n → (nat_eq n 0 ≡ false) × (nat_eq n 1 ≡ false)
more_than n h = (grind (arith, nat_tests), grind (arith, nat_tests))

letter_test : (b letter : ℕ) → IsLetter letter b → nat_eq (to_ascii_uppercase b) letter ≡ true
letter_test b letter e = rw e (grind (arith, nat_tests))

letter_no_mark : (b : ℕ) → IsLetter 76 b → nat_eq b 63 ≡ false
letter_no_mark b e =
    elim (cases_test (nat_eq b 63)) [
      | inr other ↦ other
      | inl mark ↦ (let up : to_ascii_uppercase b ≡ 63 = ap to_ascii_uppercase (eq_true b 63 mark) in absurd (omega (arith, up, e)))
    ]

-- a text of more than one byte is not `?`
long_no_mark : (text : List ℕ) → nat_eq (length text) 1 ≡ false → is_byte 63 text ≡ false
long_no_mark text e = rw e

-- a rule on days is read where the text is not `?`
day_item : (text : List ℕ) (item : Item) → is_byte 63 text ≡ false → day_rule text ≡ Some item → item_of 4 text ≡ Some item
day_item text item mark e = rw (mark, e)

weekday_item : (text : List ℕ) (item : Item) → is_byte 63 text ≡ false → weekday_rule text ≡ Some item → item_of 6 text ≡ Some item
weekday_item text item mark e = rw (mark, e)

last_complete : (field l : ℕ) → (field ≡ 4) ⊎ (field ≡ 6) → IsLetter 76 l → item_of field (l ∷ []) ≡ Some (Last 0)
last_complete field l (inl four) e = rw four (day_item (l ∷ []) (Last 0) (letter_no_mark l e) (rw (letter_test l 76 e)))
last_complete field l (inr six) e = rw six (weekday_item (l ∷ []) (Last 0) (letter_no_mark l e) (rw (letter_test l 76 e)))

back_complete : (l : ℕ) (a : List ℕ) (n : ℕ) → IsLetter 76 l → IsNumber 1 30 a n → item_of 4 (l ∷ 45 ∷ a) ≡ Some (Last n)
back_complete l a n e number =
    let long = more_than (length (l ∷ 45 ∷ a)) (omega arith) in
    day_item (l ∷ 45 ∷ a) (Last n) (long_no_mark (l ∷ 45 ∷ a) long.1)
    (rw (long.0, letter_test l 76 e, long.1, low_false (nat_eq (length (l ∷ 45 ∷ a)) 2) (is_letter_at (l ∷ 45 ∷ a) 1 87) refl, number))

workday_last_complete : (l w : ℕ) → IsLetter 76 l → IsLetter 87 w → item_of 4 (l ∷ w ∷ []) ≡ Some LastWorkday
workday_last_complete l w e f = day_item (l ∷ w ∷ []) LastWorkday refl (rw (letter_test l 76 e, letter_test w 87 f))

workday_complete : (a : List ℕ) (w n : ℕ) → IsLetter 87 w → IsNumber 1 31 a n → item_of 4 (a ++ w ∷ []) ≡ Some (Workday n)
workday_complete a w n e number =
    let digits = number_of-digits 4 a n (within_some 1 31 (number_of 4 a) n number) in
    let parts = last-added a w in
    let long = more_than (length (a ++ w ∷ [])) (omega (arith, parts.2, digits.1)) in
    let first : is_letter_at (a ++ w ∷ []) 0 76 ≡ false = ap (λ b. nat_eq (to_ascii_uppercase b) 76) (first-added a w digits.1) ∙ low-no_letter a 0 76 (digits-low a digits.0) (omega arith) in
    let ends : is_letter_at (a ++ w ∷ []) (length (a ++ w ∷ []) - 1) 87 ≡ true = ap (λ b. nat_eq (to_ascii_uppercase b) 87) parts.0 ∙ letter_test w 87 e in
    day_item (a ++ w ∷ []) (Workday n) (long_no_mark (a ++ w ∷ []) long.1) (rw (long.0, first, ends, parts.1, number))

weekday_last_complete : (a : List ℕ) (l d : ℕ) → IsLetter 76 l → IsValue 6 a d → item_of 6 (a ++ l ∷ []) ≡ Some (LastWeekday d)
weekday_last_complete a l d e is =
    let words = value_of-words 6 a d is in
    let parts = last-added a l in
    let long = more_than (length (a ++ l ∷ [])) (omega (arith, parts.2, words.1)) in
    let ends : is_letter_at (a ++ l ∷ []) (length (a ++ l ∷ []) - 1) 76 ≡ true = ap (λ b. nat_eq (to_ascii_uppercase b) 76) parts.0 ∙ letter_test l 76 e in
    weekday_item (a ++ l ∷ []) (LastWeekday d) (long_no_mark (a ++ l ∷ []) long.1) (rw (long.0, ends, long.1, parts.1, is))

nth_complete : (a b : List ℕ) (d k : ℕ) → IsValue 6 a d → IsNumber 1 5 b k → item_of 6 (a ++ 35 ∷ b) ≡ Some (NthWeekday d k)
nth_complete a b d k is number =
    let words = value_of-words 6 a d is in
    let digits = number_of-digits 4 b k (within_some 1 5 (number_of 4 b) k number) in
    let long = more_than (length (a ++ 35 ∷ b)) (omega (arith, length-append a (35 ∷ b), words.1)) in
    let ends : is_letter_at (a ++ 35 ∷ b) (length (a ++ 35 ∷ b) - 1) 76 ≡ false = ap (λ c. nat_eq (to_ascii_uppercase c) 76) (last-behind a b 35 digits.1) ∙ low-no_letter b (length b - 1) 76 (digits-low b digits.0) (omega arith) in
    weekday_item (a ++ 35 ∷ b) (NthWeekday d k) (long_no_mark (a ++ 35 ∷ b) long.1)
    (rw (long.0, ends, position-behind 35 a b (lacks-by is_word 35 refl a words.0), take-before a (35 ∷ b), drop-behind 35 a b, is, number))

-- what the grammar gives is read as an item
pub item_complete : (field : ℕ) (text : List ℕ) (item : Item) → IsItem field text item → item_of field text ≡ Some item
item_complete field text item (value v is said) =
    let words = value_of-words field text v is in
    rw said (plain_item field text (run_item v v 1) (value_plain field text v is)
    (rw (position-lacks 47 text (lacks-by is_word 47 refl text words.0), lone_complete field false text v is)))
item_complete field text item (values from to ranged said) =
    rw said (plain_item field text (run_item from to 1) (range_plain field text from to ranged)
    (rw (position-lacks 47 text (range_slash field text from to ranged), range_complete field false text from to ranged)))
item_complete field text item (value_step a s v n cut is step said) =
    let words = value_of-words field a v is in
    rw (said, cut) (plain_item field (a ++ 47 ∷ s) (run_item v (greatest field) n) (joined_plain field a 47 s refl refl refl (step_words field s n step).1 (value_plain field a v is) (step_plain field s n step))
    (rw (position-behind 47 a s (lacks-by is_word 47 refl a words.0), take-before a (47 ∷ s), drop-behind 47 a s, lone_complete field true a v is, step)))
item_complete field text item (values_step a s from to n cut ranged step said) =
    rw (said, cut) (plain_item field (a ++ 47 ∷ s) (run_item from to n) (joined_plain field a 47 s refl refl refl (step_words field s n step).1 (range_plain field a from to ranged) (step_plain field s n step))
    (rw (position-behind 47 a s (range_slash field a from to ranged), take-before a (47 ∷ s), drop-behind 47 a s, range_complete field true a from to ranged, step)))
item_complete field text item (free (inl four) cut said) = rw (said, cut, four)
item_complete field text item (free (inr six) cut said) = rw (said, cut, six)
item_complete field text item (last l days letter cut said) = rw (said, cut) (last_complete field l days letter)
item_complete field text item (last_back l a n four letter cut number said) = rw (said, cut, four) (back_complete l a n letter number)
item_complete field text item (last_workday l w four letter other cut said) = rw (said, cut, four) (workday_last_complete l w letter other)
item_complete field text item (workday a w n four letter cut number said) = rw (said, cut, four) (workday_complete a w n letter number)
item_complete field text item (last_weekday a l d six letter cut is said) = rw (said, cut, six) (weekday_last_complete a l d letter is)
item_complete field text item (nth_weekday a b d k six cut is number said) = rw (said, cut, six) (nth_complete a b d k is number)

pub reader_is_grammar : ReaderIsGrammar
reader_is_grammar field text item = (item_sound field text item, item_complete field text item)
