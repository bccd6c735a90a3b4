use Rattle.std.proofs.Common.{◌≡◌, ◌+◌, ◌-◌, ◌/◌, arith, pos, ◌<ℤ◌, ◌≤ℤ◌}
use Rattle.jiff_core.proofs.SignedLemmas.{signed_arith, signed_casts}
use Rattle.cron_schedule.specs.Zones.{change_at}
use Rattle.cron_schedule.proofs.ZoneLemmas.{change_at-rises}
use Rattle.cron_schedule.proofs.zones.passed_by.Goals as goal

pub passed_from-requires-clause-passed : goal.passed_from-requires-clause-passed
passed_from-requires-clause-passed c =
    let change = c.change_second-change.ensures in
    let last : change_at c.args.rule.now c.args.offset (c.args.at / 31622400) ≤ℤ pos c.args.at = omega (arith, signed_casts, change.value, change.bound, c.if-change-at.true, c.requires) in
    λ k lt. omega (arith, signed_arith, last, change_at-rises c.args.rule.now c.args.offset change.rule k (c.args.at / 31622400) (omega arith) (omega (arith, c.requires)))

pub passed_from-requires-clause-last : goal.passed_from-requires-clause-last
passed_from-requires-clause-last c =
    λ some. let e : c.args.at / 31622400 + 1 - 1 ≡ c.args.at / 31622400 = omega arith in rw e (omega (arith, signed_casts, c.change_second-change.ensures.value, c.change_second-change.ensures.bound))

pub returns-then-before-at-clause-passed : goal.returns-then-before-at-clause-passed
returns-then-before-at-clause-passed c =
    let change = c.change_second-change.ensures in
    let before = c.change_second-before.ensures in
    let next : pos c.args.at <ℤ change_at c.args.rule.now c.args.offset (c.args.at / 31622400) = omega (arith, signed_casts, change.value, change.bound, c.if-change-at.false, c.requires) in
    let last : change_at c.args.rule.now c.args.offset (c.args.at / 31622400 - 1) ≤ℤ pos c.args.at = omega (arith, signed_casts, before.value, before.bound, c.if-before-at.true, c.requires) in
    record {
      count = record {
        most = omega (arith, c.requires);
        passed = λ k lt. omega (arith, signed_arith, last, change_at-rises c.args.rule.now c.args.offset change.rule k (c.args.at / 31622400 - 1) (omega arith) (omega (arith, c.requires)));
        to_come = λ k low below. omega (arith, signed_arith, next, change_at-rises c.args.rule.now c.args.offset change.rule (c.args.at / 31622400) k low below);
      };
      last = λ some. omega (arith, signed_casts, before.value, before.bound);
      next = λ lt. omega (arith, signed_casts, change.value, change.bound);
      bound = λ lt. (omega (arith, signed_casts, change.bound), omega (arith, signed_casts, change.bound));
    }
