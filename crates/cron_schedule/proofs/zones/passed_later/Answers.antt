use Rattle.std.proofs.Common.{◌≡◌, ◌+◌, ◌-◌, ◌<◌, arith, pos, ◌≤ℤ◌, inl, inr}
use Rattle.std.proofs.lemmas.Bool.{cases_lt}
use Rattle.jiff_core.proofs.SignedLemmas.{signed_arith, signed_casts}
use Rattle.cron_schedule.specs.Zones.{change_at}
use Rattle.cron_schedule.proofs.ZoneLemmas.{change_at-rises, passing_on}
use Rattle.cron_schedule.proofs.zones.passed_later.Goals as goal

pub returns-then-passed-eq-YEARS : goal.returns-then-passed-eq-YEARS
returns-then-passed-eq-YEARS c =
    passing_on (change_at c.args.rule.now c.args.offset) (pos c.args.from) (pos c.args.at) c.args.passed (change_at-rises c.args.rule.now c.args.offset c.requires.rule) c.requires.passed (omega (arith, signed_arith, c.requires.later)) (λ lt. absurd (omega arith))

pub returns-then-passed-at : goal.returns-then-passed-at
returns-then-passed-at c =
    passing_on (change_at c.args.rule.now c.args.offset) (pos c.args.from) (pos c.args.at) c.args.passed (change_at-rises c.args.rule.now c.args.offset c.requires.rule) c.requires.passed (omega (arith, signed_arith, c.requires.later)) (λ lt. omega (arith, signed_casts, c.if-passed-at.true, c.requires.passed.bound lt))

pub passed_from-requires-clause-passed : goal.passed_from-requires-clause-passed
passed_from-requires-clause-passed c =
    let known = c.requires.passed in
    let some : c.args.passed.count < 130 = omega (arith, known.count.most, c.if-passed-eq-YEARS.false) in
    let is = known.next some in
    let bound = known.bound some in
    let low : c.args.passed.next ≤ℤ pos c.args.at = omega (arith, signed_casts, c.if-passed-at.false, bound) in
    let next : change_at c.args.rule.now c.args.offset c.args.passed.count ≤ℤ pos c.args.at = rw is at low in
    λ k lt. elim (cases_lt k c.args.passed.count) [
      | inl early ↦ omega (arith, signed_arith, known.count.passed k early, c.requires.later)
      | inr late ↦ let e : k ≡ c.args.passed.count = omega arith in rw e next
    ]

pub passed_from-requires-clause-last : goal.passed_from-requires-clause-last
passed_from-requires-clause-last c =
    let known = c.requires.passed in
    let some : c.args.passed.count < 130 = omega (arith, known.count.most, c.if-passed-eq-YEARS.false) in
    let is = known.next some in
    let bound = known.bound some in
    let e : c.args.passed.count + 1 - 1 ≡ c.args.passed.count = omega arith in
    λ some. rw e (omega (arith, signed_casts, is, bound))
