use Rattle.std.proofs.Common.{◌≡◌, ◌+◌, ◌-◌, arith, inl, inr, pos, ◌<ℤ◌, ◌≤ℤ◌}
use Rattle.std.proofs.lemmas.Bool.{cases_lt}
use Rattle.jiff_core.proofs.SignedLemmas.{signed_arith, signed_casts}
use Rattle.cron_schedule.specs.Zones.{change_at}
use Rattle.cron_schedule.proofs.ZoneLemmas.{change_at-rises}
use Rattle.cron_schedule.proofs.zones.passed_from.Goals as goal

pub returns-then-next-at : goal.returns-then-next-at
returns-then-next-at c =
    let late : pos c.args.at <ℤ change_at c.args.rule.now c.args.offset c.loop-year.year = omega (arith, signed_casts, c.change_second-next.ensures.value, c.change_second-next.ensures.bound, c.if-next-at.true, c.ranges.at) in
    record {
      count = record {
        most = omega arith;
        passed = c.loop-year.invariant.passed;
        to_come = λ k low below. omega (arith, signed_arith, late, change_at-rises c.args.rule.now c.args.offset c.change_second-next.ensures.rule c.loop-year.year k low below);
      };
      last = c.loop-year.invariant.last;
      next = λ lt. omega (arith, signed_casts, c.change_second-next.ensures.value, c.change_second-next.ensures.bound);
      bound = λ lt. (omega (arith, signed_casts, c.change_second-next.ensures.bound), omega (arith, signed_casts, c.change_second-next.ensures.bound));
    }

pub loop-year-preserved : goal.loop-year-preserved
loop-year-preserved c =
    let here : change_at c.args.rule.now c.args.offset c.loop-year.year ≤ℤ pos c.args.at = omega (arith, signed_casts, c.change_second-next.ensures.value, c.change_second-next.ensures.bound, c.if-next-at.false, c.ranges.at) in
    record {
      passed = λ k lt. elim (cases_lt k c.loop-year.year) [
        | inl early ↦ c.loop-year.invariant.passed k early
        | inr late ↦ let e : k ≡ c.loop-year.year = omega arith in rw e here
      ];
      last = λ some. let e : c.loop-year.year + 1 - 1 ≡ c.loop-year.year = omega arith in rw e (omega (arith, signed_casts, c.change_second-next.ensures.value, c.change_second-next.ensures.bound));
    }

pub returns : goal.returns
returns c =
    let e : c.loop-year.year ≡ 130 = omega arith in
    record {
      count = record {
        most = omega arith;
        passed = λ k lt. c.loop-year.invariant.passed k (omega arith);
        to_come = λ k low below. absurd (omega arith);
      };
      last = λ some. rw e at (c.loop-year.invariant.last (omega arith));
      next = λ lt. absurd (omega arith);
      bound = λ lt. absurd (omega arith);
    }
