-- The laws of due times.
use Rattle.std.proofs.Common.{◌≡◌, ℕ, ◌+◌, ◌<◌, ◌≤◌, Bool, true, false, Option, Some, None, List, refl, arith, ℤ, pos, ◌/◌, inl, inr}
use Rattle.std.proofs.lemmas.Bool.Decides.{nat_tests}
use Rattle.job_values.specs.declared.limits.TheConstants.{LAST_MOMENT}
use Rattle.cron_schedule.specs.declared.plan.Plan.TheVariants.{Never, Every, Cron}
use Rattle.cron_schedule.specs.First.{first_in, IsFirst, IsFirstAt}
use Rattle.cron_schedule.specs.declared.item.FieldItem.{FieldItem}
use Rattle.cron_schedule.specs.Due.{is_due, is_due_in, DueIn}
use Rattle.cron_schedule.specs.Zones.{offset_at, offset_by}
use Rattle.zone_texts.specs.declared.zone.Zone.{Zone}
use Rattle.zone_texts.specs.declared.zone.ZoneRules.{ZoneRules}
use Rattle.cron_schedule.specs.PlanDue.{IsLeastAfter, TimeIsLeast, LeastIsTime, OneOffset}
use Rattle.cron_schedule.proofs.RelationLemmas.{due_by_test, test_by_due}
use Rattle.std.proofs.lemmas.Bool.{cases_lt}
use Rattle.cron_schedule.specs.After.{after_seconds, TimesRise}
use Rattle.cron_schedule.proofs.FirstLemmas.{IsFirst-first_in, first_in-is}

rate_rises : (seconds t next : ℕ) → after_seconds seconds t ≡ Some next → (t < next) × (next ≤ LAST_MOMENT)
rate_rises seconds t next e = grind (arith, nat_tests)

found : (test : ℕ → Bool) (low high r : ℕ) → first_in test low high ≡ Some r → IsFirstAt test low high r
found test low high r e = rw e at (IsFirst-first_in test low high)

pub times_rise : TimesRise
times_rise Never zone t next e = cc
times_rise (Every seconds) zone t next e = rate_rises seconds t next e
times_rise (Cron items) zone t next e =
    let first = found (is_due_in items zone) (t + 1) (LAST_MOMENT + 1) next e in
    (omega (arith, first.least), omega (arith, first.below))

-- an answer by the test is the least by the relation
least_by_test : (items : List FieldItem) (zone : Zone) (t : ℕ) (r : Option ℕ) → IsFirst (is_due_in items zone) (t + 1) (LAST_MOMENT + 1) r → IsLeastAfter (DueIn items zone) t r
least_by_test items zone t None h =
    λ v later most due.
    let none : is_due_in items zone v ≡ false = h v (omega arith) (omega arith) in
    let pass : is_due_in items zone v ≡ true = test_by_due items (offset_at zone v) v due in
    cc
least_by_test items zone t (Some r) h = (
  omega (arith, h.least),
  omega (arith, h.below),
  due_by_test items (offset_at zone r) r h.passes,
  λ v later due.
      elim (cases_lt v r) [
        | inr le ↦ le
        | inl lt ↦
            let none : is_due_in items zone v ≡ false = h.none_before v (omega arith) lt in
            let pass : is_due_in items zone v ≡ true = test_by_due items (offset_at zone v) v due in
            cc
      ],
)

-- what is not true is false
not_true : (b : Bool) → (b ≡ true → ⊥) → b ≡ false
not_true true h = absurd (h refl)
not_true false h = refl

test_by_least : (items : List FieldItem) (zone : Zone) (t : ℕ) (r : Option ℕ) → IsLeastAfter (DueIn items zone) t r → IsFirst (is_due_in items zone) (t + 1) (LAST_MOMENT + 1) r
test_by_least items zone t None h =
    λ v low below. not_true (is_due_in items zone v) (λ pass. h v (omega arith) (omega arith) (due_by_test items (offset_at zone v) v pass))
test_by_least items zone t (Some r) h = record {
  least = omega (arith, h.0);
  below = omega (arith, h.1);
  passes = test_by_due items (offset_at zone r) r h.2;
  none_before = λ v low before. not_true (is_due_in items zone v) (λ pass. let le : r ≤ v = h.3 v (omega arith) (due_by_test items (offset_at zone v) v pass) in omega arith);
}

pub time_is_least : TimeIsLeast
time_is_least items zone t =
    least_by_test items zone t (first_in (is_due_in items zone) (t + 1) (LAST_MOMENT + 1)) (IsFirst-first_in (is_due_in items zone) (t + 1) (LAST_MOMENT + 1))

pub least_is_time : LeastIsTime
least_is_time items zone t r h =
    first_in-is (is_due_in items zone) (t + 1) (LAST_MOMENT + 1) r (test_by_least items zone t r h)

one_by_rules : (items : List FieldItem) (standard : ℤ) (rules : Option ZoneRules) (t : ℕ) → rules ≡ None → first_in (λ v. is_due items (offset_by standard rules (pos (v / 1000))) v) (t + 1) (LAST_MOMENT + 1) ≡ first_in (is_due items standard) (t + 1) (LAST_MOMENT + 1)
one_by_rules items standard None t e = refl
one_by_rules items standard (Some rules) t e = cc

pub one_offset : OneOffset
one_offset items zone t e = one_by_rules items zone.standard zone.rules t e
