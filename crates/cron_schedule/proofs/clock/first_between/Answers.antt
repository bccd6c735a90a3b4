use Rattle.std.proofs.Common.{◌-◌, ◌<◌, arith, pos, ◌+ℤ◌}
use Rattle.jiff_core.proofs.SignedLemmas.{signed_arith}
use Rattle.cron_schedule.proofs.AfterLemmas as after
use Rattle.cron_schedule.proofs.clock.first_between.Goals as goal

pub utc_second-requires : goal.utc_second-requires
utc_second-requires g c =
    let offset = c.args.offset in
    let first = c.in-Some.ensures.first in
    let early : c.in-Some.second < 4102444800 = omega (arith, first.below, c.clock_second-high.ensures, after.clip-most (pos c.args.until +ℤ offset)) in
    let low = after.clip-at (pos c.args.from +ℤ offset) c.in-Some.second (omega (arith, first.least, c.clock_second-low.ensures)) early in
    let high = after.clip-above (pos c.args.until +ℤ offset) c.in-Some.second (omega (arith, first.below, c.clock_second-high.ensures)) in
    record {
      least = omega (arith, signed_arith, low);
      most = omega (arith, signed_arith, high, c.requires.until);
    }

pub returns-in-None-clause-first : goal.returns-in-None-clause-first
returns-in-None-clause-first g c =
    after.none_between c.args.cron.now c.args.offset c.args.from c.args.until (rw (c.clock_second-low.ensures, c.clock_second-high.ensures) at c.in-None.ensures.first)

pub returns-in-None-clause-cost : goal.returns-in-None-clause-cost
returns-in-None-clause-cost g c =
    let apart = after.clip-apart (pos c.args.from +ℤ c.args.offset) (pos c.args.until +ℤ c.args.offset) (c.args.until - c.args.from) (omega (arith, signed_arith, c.requires.from)) in
    omega (arith, c.in-None.ensures.cost, c.clock_second-low.ensures, c.clock_second-high.ensures, apart)

pub returns-in-Some-clause-first : goal.returns-in-Some-clause-first
returns-in-Some-clause-first g c =
    after.first_between c.args.cron.now c.args.offset c.args.from c.args.until c.in-Some.second c.utc_second.result (rw (c.clock_second-low.ensures, c.clock_second-high.ensures) at c.in-Some.ensures.first) c.utc_second.ensures

pub returns-in-Some-clause-cost : goal.returns-in-Some-clause-cost
returns-in-Some-clause-cost g c =
    let apart = after.clip-apart (pos c.args.from +ℤ c.args.offset) (pos c.args.until +ℤ c.args.offset) (c.args.until - c.args.from) (omega (arith, signed_arith, c.requires.from)) in
    omega (arith, c.in-Some.ensures.cost, c.clock_second-low.ensures, c.clock_second-high.ensures, apart)
