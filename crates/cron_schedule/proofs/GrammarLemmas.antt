-- What the item reader reads, the grammar gives.
use Rattle.std.proofs.Common.{◌≡◌, ℕ, suc, ◌+◌, ◌-◌, ◌<◌, ◌≤◌, Bool, true, false, ◌&&◌, ◌||◌, nat_eq, nat_lt, Option, Some, None, List, [], ◌∷◌, ◌++◌, length, get_or, take, drop, refl, sym, ap, arith, inl, inr, ◌⊎◌, if◌then◌else◌}
use Rattle.std.specs.Prelude.{position}
use Rattle.std.proofs.lemmas.Option.{same_Some}
use Rattle.std.proofs.lemmas.Bool.Decides.{nat_tests}
use Rattle.cron_schedule.specs.declared.item.Run.{Run}
use Rattle.cron_schedule.specs.declared.item.Item.{Item}
use Rattle.cron_schedule.specs.declared.item.Item.TheVariants.{Values, Free, Last, LastWorkday, Workday, LastWeekday, NthWeekday}
use Rattle.cron_schedule.specs.Field.{least, greatest}
use Rattle.cron_schedule.specs.Number.{number_of}
use Rattle.cron_schedule.specs.Reading.{is_byte, is_letter_at, within, value_of, step_of, run_of, lone, between, range_at, range_of, with_step, values_at, values_item, values_of, days_back, near_day, day_rule, last_such, nth_such, nth_at, weekday_rule, rule_of, rule_or, item_of}
use Rattle.cron_schedule.specs.Grammar.{IsLetter, IsValue, IsStep, run_item, IsRange, IsItem}
use Rattle.cron_schedule.specs.Grammar.IsRange.{range, star}
use Rattle.cron_schedule.specs.Grammar.IsItem.{value, values, value_step, values_step, free, last, last_back, last_workday, workday, last_weekday, nth_weekday}
use Rattle.cron_schedule.proofs.FirstLemmas.{cases_test}
use Rattle.cron_schedule.proofs.SplitLemmas.{split_at_byte, split_last_byte, one_byte_text, two_byte_text, second_byte_text}

two_long : (n : ℕ) → nat_eq (suc (suc n)) 1 ≡ false
two_long n = grind (arith, nat_tests)

-- a text that is one byte
one_byte : (byte : ℕ) (text : List ℕ) → is_byte byte text ≡ true → text ≡ byte ∷ []
one_byte byte [] e = cc
one_byte byte (b ∷ []) e = let same : b ≡ byte = grind (arith, nat_tests) in ap (λ x. x ∷ []) same
one_byte byte (b ∷ c ∷ bs) e =
    let long : nat_eq (length (b ∷ c ∷ bs)) 1 ≡ false = two_long (length bs) in
    let none : is_byte byte (b ∷ c ∷ bs) ≡ false = rw long in
    cc

values_item_some : (x : Option Run) (item : Item) → values_item x ≡ Some item → (r : Run) × (x ≡ Some r) × (item ≡ Values r)
values_item_some None item e = cc
values_item_some (Some r) item e = (r, refl, cc)

with_step_some : (x : Option Run) (y : Option ℕ) (r : Run) → with_step x y ≡ Some r → (q : Run) × (n : ℕ) × (x ≡ Some q) × (y ≡ Some n) × (run_item q.from q.to n ≡ Values r)
with_step_some None y r e = cc
with_step_some (Some q) None r e = cc
with_step_some (Some q) (Some n) r e = (q, n, refl, refl, cc)

-- a range, or one value
abbrev pub RangeRead : ℕ → Bool → List ℕ → Run → Type 0
RangeRead field stepped text r =
    (IsRange field text r.from r.to × (r.step ≡ 1))
    ⊎ ((v : ℕ) × IsValue field text v × (r.from ≡ v) × (r.to ≡ (if stepped then greatest field else v)) × (r.step ≡ 1))

not_wrapped : (field a b : ℕ) → field ≡ 7 → (nat_eq field 7 && nat_lt b a) ≡ false → a ≤ b
not_wrapped field a b year plain = grind (arith, nat_tests)

lone_some : (field : ℕ) (stepped : Bool) (x : Option ℕ) (r : Run) → lone field stepped x ≡ Some r → (v : ℕ) × (x ≡ Some v) × (r.from ≡ v) × (r.to ≡ (if stepped then greatest field else v)) × (r.step ≡ 1)
lone_some field stepped None r e = cc
lone_some field stepped (Some v) r e =
    let q : r ≡ record { from = v; to = (if stepped then greatest field else v); step = 1 } = sym (same_Some _ _ e) in
    (v, refl, ap (λ (x : Run). x.from) q, ap (λ (x : Run). x.to) q, ap (λ (x : Run). x.step) q)

between_some : (field : ℕ) (x y : Option ℕ) (r : Run) → between field x y ≡ Some r → (x ≡ Some r.from) × (y ≡ Some r.to) × (r.step ≡ 1) × (field ≡ 7 → r.from ≤ r.to)
between_some field None y r e = cc
between_some field (Some a) None r e = cc
between_some field (Some a) (Some b) r e =
    elim (cases_test (nat_eq field 7 && nat_lt b a)) [
      | inl wraps ↦ (let none : between field (Some a) (Some b) ≡ None = rw wraps in cc)
      | inr plain ↦
          let q : r ≡ record { from = a; to = b; step = 1 } = sym (same_Some _ _ (rw plain at e)) in
          let from : r.from ≡ a = ap (λ (x : Run). x.from) q in
          let to : r.to ≡ b = ap (λ (x : Run). x.to) q in
          (ap Some (sym from), ap Some (sym to), ap (λ (x : Run). x.step) q, λ year. (let order : a ≤ b = not_wrapped field a b year plain in omega arith))
    ]

star_some : (field : ℕ) (r : Run) → run_of (least field) (greatest field) 1 ≡ Some r → (r.from ≡ least field) × (r.to ≡ greatest field) × (r.step ≡ 1)
star_some field r e =
    let q : r ≡ record { from = least field; to = greatest field; step = 1 } = sym (same_Some _ _ e) in
    (ap (λ (x : Run). x.from) q, ap (λ (x : Run). x.to) q, ap (λ (x : Run). x.step) q)

range_at_sound : (field : ℕ) (stepped : Bool) (text : List ℕ) (r : Run) (p : Option ℕ) → position (λ b. nat_eq b 45) text ≡ p → range_at field stepped text p ≡ Some r → RangeRead field stepped text r
range_at_sound field stepped text r None at e =
    let v = lone_some field stepped (value_of field text) r e in
    inr (v.0, v.1, v.2, v.3, v.4)
range_at_sound field stepped text r (Some i) at e =
    let ends = between_some field (value_of field (take i text)) (value_of field (drop (i + 1) text)) r e in
    inl (range (take i text) (drop (i + 1) text) (split_at_byte text 45 i at) ends.0 ends.1 ends.3, ends.2)

range_sound : (field : ℕ) (stepped : Bool) (text : List ℕ) (r : Run) → range_of field stepped text ≡ Some r → RangeRead field stepped text r
range_sound field stepped text r e =
    elim (cases_test (is_byte 42 text)) [
      | inl all ↦
          let parts = star_some field r (rw all at e) in
          inl (star (one_byte 42 text all) parts.0 parts.1, parts.2)
      | inr other ↦ range_at_sound field stepped text r (position (λ b. nat_eq b 45) text) refl (rw other at e)
    ]

-- a run is the record of its parts
run_parts : (r : Run) (from to step : ℕ) → r.from ≡ from → r.to ≡ to → r.step ≡ step → Values r ≡ run_item from to step
run_parts r from to step a b c = rw (← a, ← b, ← c)

plain_sound : (field : ℕ) (text : List ℕ) (r : Run) → RangeRead field false text r → IsItem field text (Values r)
plain_sound field text r (inl (ranged, step)) = values r.from r.to ranged (run_parts r r.from r.to 1 refl refl step)
plain_sound field text r (inr (v, is, from, to, step)) = value v is (run_parts r v v 1 from to step)

stepped_sound : (field : ℕ) (a s text : List ℕ) (q : Run) (n : ℕ) → text ≡ a ++ 47 ∷ s → IsStep field s n → RangeRead field true a q → IsItem field text (run_item q.from q.to n)
stepped_sound field a s text q n cut step (inl (ranged, one)) = values_step a s q.from q.to n cut ranged step refl
stepped_sound field a s text q n cut step (inr (v, is, from, to, one)) = value_step a s v n cut is step (rw (from, to))

values_at_sound : (field : ℕ) (text : List ℕ) (r : Run) (p : Option ℕ) → position (λ b. nat_eq b 47) text ≡ p → values_at field text p ≡ Some r → IsItem field text (Values r)
values_at_sound field text r None at e = plain_sound field text r (range_sound field false text r e)
values_at_sound field text r (Some i) at e =
    let parts = with_step_some (range_of field true (take i text)) (step_of field (drop (i + 1) text)) r e in
    rw (← parts.4) (stepped_sound field (take i text) (drop (i + 1) text) text parts.0 parts.1 (split_at_byte text 47 i at) parts.3 (range_sound field true (take i text) parts.0 parts.2))

values_sound : (field : ℕ) (text : List ℕ) (item : Item) → values_of field text ≡ Some item → IsItem field text item
values_sound field text item e =
    let parts = values_item_some (values_at field text (position (λ b. nat_eq b 47) text)) item e in
    rw parts.2 (values_at_sound field text parts.0 (position (λ b. nat_eq b 47) text) refl parts.1)

eq_true : (a b : ℕ) → nat_eq a b ≡ true → a ≡ b
eq_true a b e = grind (arith, nat_tests)

left_true : (a b : Bool) → (a && b) ≡ true → a ≡ true
left_true true b e = refl
left_true false b e = cc

right_true : (a b : Bool) → (a && b) ≡ true → b ≡ true
right_true true b e = e
right_true false b e = cc

not_empty : (text : List ℕ) → nat_eq (length text) 0 ≡ false → 0 < length text
not_empty text e = grind (arith, nat_tests)

days_back_some : (x : Option ℕ) (item : Item) → days_back x ≡ Some item → (n : ℕ) × (x ≡ Some n) × (item ≡ Last n)
days_back_some None item e = cc
days_back_some (Some n) item e = (n, refl, cc)

near_day_some : (x : Option ℕ) (item : Item) → near_day x ≡ Some item → (n : ℕ) × (x ≡ Some n) × (item ≡ Workday n)
near_day_some None item e = cc
near_day_some (Some n) item e = (n, refl, cc)

last_such_some : (x : Option ℕ) (item : Item) → last_such x ≡ Some item → (n : ℕ) × (x ≡ Some n) × (item ≡ LastWeekday n)
last_such_some None item e = cc
last_such_some (Some n) item e = (n, refl, cc)

nth_such_some : (x y : Option ℕ) (item : Item) → nth_such x y ≡ Some item → (d k : ℕ) × (x ≡ Some d) × (y ≡ Some k) × (item ≡ NthWeekday d k)
nth_such_some None y item e = cc
nth_such_some (Some d) None item e = cc
nth_such_some (Some d) (Some k) item e = (d, k, refl, refl, cc)

-- a rule on days of month is one of the grammar
after_letter : (text : List ℕ) (item : Item) → is_letter_at text 0 76 ≡ true → nat_eq (length text) 0 ≡ false → day_rule text ≡ Some item → IsItem 4 text item
after_letter text item letter some e =
    let l = get_or text 0 0 in
    let is_l : IsLetter 76 l = eq_true _ 76 letter in
    elim (cases_test (nat_eq (length text) 1)) [
      | inl one ↦
          let said : Some (Last 0) ≡ Some item = rw (some, letter, one) at e in
          last l (inl refl) is_l (one_byte_text text (eq_true (length text) 1 one)) (sym (same_Some _ _ said))
      | inr more ↦ elim (cases_test (nat_eq (length text) 2 && is_letter_at text 1 87)) [
        | inl two ↦
            let said : Some LastWorkday ≡ Some item = rw (some, letter, more, two) at e in
            last_workday l (get_or text 1 0) refl is_l (eq_true _ 87 (right_true (nat_eq (length text) 2) (is_letter_at text 1 87) two)) (two_byte_text text (eq_true (length text) 2 (left_true (nat_eq (length text) 2) (is_letter_at text 1 87) two))) (sym (same_Some _ _ said))
        | inr long ↦ elim (cases_test (nat_eq (get_or text 1 0) 45)) [
          | inl dash ↦
              let said : days_back (within 1 30 (number_of 4 (drop 2 text))) ≡ Some item = rw (some, letter, more, long, dash) at e in
              let parts = days_back_some (within 1 30 (number_of 4 (drop 2 text))) item said in
              last_back l (drop 2 text) parts.0 refl is_l (second_byte_text text 45 (omega arith) (eq_true _ 45 dash)) parts.1 parts.2
          | inr other ↦
              let said : None ≡ Some item = rw (some, letter, more, long, other) at e in
              cc
        ]
      ]
    ]

day_sound : (text : List ℕ) (item : Item) → day_rule text ≡ Some item → IsItem 4 text item
day_sound text item e =
    elim (cases_test (nat_eq (length text) 0)) [
      | inl none ↦ (let said : None ≡ Some item = rw none at e in cc)
      | inr some ↦ elim (cases_test (is_letter_at text 0 76)) [
        | inl letter ↦ after_letter text item letter some e
        | inr other ↦ elim (cases_test (is_letter_at text (length text - 1) 87)) [
          | inl ends ↦
              let said : near_day (within 1 31 (number_of 4 (take (length text - 1) text))) ≡ Some item = rw (some, other, ends) at e in
              let parts = near_day_some (within 1 31 (number_of 4 (take (length text - 1) text))) item said in
              workday (take (length text - 1) text) (get_or text (length text - 1) 0) parts.0 refl (eq_true _ 87 ends) (split_last_byte text (not_empty text some)) parts.1 parts.2
          | inr plain ↦ (let said : None ≡ Some item = rw (some, other, plain) at e in cc)
        ]
      ]
    ]

nth_sound : (text : List ℕ) (item : Item) (p : Option ℕ) → position (λ b. nat_eq b 35) text ≡ p → nth_at text p ≡ Some item → IsItem 6 text item
nth_sound text item None at e = cc
nth_sound text item (Some i) at e =
    let parts = nth_such_some (value_of 6 (take i text)) (within 1 5 (number_of 4 (drop (i + 1) text))) item e in
    nth_weekday (take i text) (drop (i + 1) text) parts.0 parts.1 refl (split_at_byte text 35 i at) parts.2 parts.3 parts.4

weekday_sound : (text : List ℕ) (item : Item) → weekday_rule text ≡ Some item → IsItem 6 text item
weekday_sound text item e =
    elim (cases_test (nat_eq (length text) 0)) [
      | inl none ↦ (let said : None ≡ Some item = rw none at e in cc)
      | inr some ↦ elim (cases_test (is_letter_at text (length text - 1) 76)) [
        | inl ends ↦ elim (cases_test (nat_eq (length text) 1)) [
          | inl one ↦
              let said : Some (Last 0) ≡ Some item = rw (some, ends, one) at e in
              let l = get_or text 0 0 in
              let first : length text - 1 ≡ 0 = (let is_one = eq_true (length text) 1 one in omega arith) in
              let is_l : IsLetter 76 l = eq_true _ 76 (rw first at ends) in
              last l (inr refl) is_l (one_byte_text text (eq_true (length text) 1 one)) (sym (same_Some _ _ said))
          | inr more ↦
              let said : last_such (value_of 6 (take (length text - 1) text)) ≡ Some item = rw (some, ends, more) at e in
              let parts = last_such_some (value_of 6 (take (length text - 1) text)) item said in
              last_weekday (take (length text - 1) text) (get_or text (length text - 1) 0) parts.0 refl (eq_true _ 76 ends) (split_last_byte text (not_empty text some)) parts.1 parts.2
        ]
        | inr other ↦
            nth_sound text item (position (λ b. nat_eq b 35) text) refl (rw (some, other) at e)
      ]
    ]

rule_or_some : (x y : Option Item) (item : Item) → rule_or x y ≡ Some item → (x ≡ Some item) ⊎ (y ≡ Some item)
rule_or_some None y item e = inr e
rule_or_some (Some i) y item e = inl e

rule_sound : (field : ℕ) (text : List ℕ) (item : Item) → rule_of field text ≡ Some item → IsItem field text item
rule_sound field text item e =
    elim (cases_test (nat_eq field 4)) [
      | inl four ↦ rw (eq_true field 4 four) (day_sound text item (rw four at e))
      | inr other ↦ elim (cases_test (nat_eq field 6)) [
        | inl six ↦ rw (eq_true field 6 six) (weekday_sound text item (rw (other, six) at e))
        | inr none ↦ (let said : None ≡ Some item = rw (other, none) at e in cc)
      ]
    ]

four_or_six : (field : ℕ) → (nat_eq field 4 || nat_eq field 6) ≡ true → (field ≡ 4) ⊎ (field ≡ 6)
four_or_six field e =
    elim (cases_test (nat_eq field 4)) [
      | inl four ↦ inl (eq_true field 4 four)
      | inr other ↦ inr (eq_true field 6 (rw other at e))
    ]

-- what is read as an item is one by the grammar
pub item_sound : (field : ℕ) (text : List ℕ) (item : Item) → item_of field text ≡ Some item → IsItem field text item
item_sound field text item e =
    elim (cases_test ((nat_eq field 4 || nat_eq field 6) && is_byte 63 text)) [
      | inl mark ↦
          let said : Some Free ≡ Some item = rw mark at e in
          free (four_or_six field (left_true (nat_eq field 4 || nat_eq field 6) (is_byte 63 text) mark)) (one_byte 63 text (right_true (nat_eq field 4 || nat_eq field 6) (is_byte 63 text) mark)) (sym (same_Some _ _ said))
      | inr other ↦ elim (rule_or_some (rule_of field text) (values_of field text) item (rw other at e)) [
        | inl rule ↦ rule_sound field text item rule
        | inr plain ↦ values_sound field text item plain
      ]
    ]
