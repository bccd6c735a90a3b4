use Rattle.std.proofs.Common.{◌≡◌, ◌+◌, ◌*◌, ◌-◌, ℕ, min, List, ◌<◌, get_or, length, take, true, ap, sym, ◌∙◌, arith, ◌&&◌}
use Rattle.std.specs.List.{list_all}
use Rattle.std.specs.Char.{is_ascii_digit, digit_value}
use Rattle.std.specs.Str.Parse.{digits_value}
use Rattle.std.proofs.lemmas.Int.Digits.{digits_value_more}
use Rattle.std.proofs.lemmas.List.Folds.{list_all_more}
use Rattle.std.proofs.lemmas.Bool.Decides.{nat_tests}
use Rattle.http_reading.proofs.plan.sized.Goals as goal

kept : (a d most : ℕ) → min (min a most * 10 + d) most ≡ min (a * 10 + d) most
kept a d most = omega arith

digit_is : (d : ℕ) → is_ascii_digit d ≡ true → digit_value d ≡ d - 48
digit_is d h = grind (arith, nat_tests)

-- one digit more
step : (v : List ℕ) (i m l f : ℕ) → i < length v → list_all is_ascii_digit (take i v) ≡ true
    → is_ascii_digit (get_or v i 0) ≡ true → l ≡ min (digits_value 10 (take i v)) 1048577 → f ≡ get_or v i 0 - 48
    → m ≡ min (l * 10 + f) 1048577
    → (list_all is_ascii_digit (take (i + 1) v) ≡ true) × (m ≡ min (digits_value 10 (take (i + 1) v)) 1048577)
step v i m l f inside all digit least from most = (
  list_all_more is_ascii_digit v i 0 inside ∙ ap (λ b. b && is_ascii_digit (get_or v i 0)) all ∙ digit,
  most
      ∙ ap (λ (t : ℕ). min (t * 10 + f) 1048577) least
      ∙ ap (λ (t : ℕ). min (min (digits_value 10 (take i v)) 1048577 * 10 + t) 1048577) (from ∙ sym (digit_is (get_or v i 0) digit))
      ∙ kept (digits_value 10 (take i v)) (digit_value (get_or v i 0)) 1048577
      ∙ ap (λ (t : ℕ). min t 1048577) (sym (digits_value_more 10 v i inside)),
)

pub loop-digit-preserved : goal.loop-digit-preserved
loop-digit-preserved c =
    step c.args.value.now c.loop-digit.digit-index _ _ _ c.loop-digit-test.true c.loop-digit.invariant.0
    (sym c.is_ascii_digit.ensures.value ∙ c.if-not-is_ascii_digit.false) c.loop-digit.invariant.1 c.from.ensures c.min-length.ensures
