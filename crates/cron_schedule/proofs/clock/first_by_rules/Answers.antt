use Rattle.std.proofs.Common.{◌≤◌, arith, inl, inr, pos}
use Rattle.jiff_core.proofs.SignedLemmas.{signed_arith}
use Rattle.cron_schedule.specs.Due.{is_utc_due}
use Rattle.cron_schedule.specs.Zones.{begin_at, end_at, offset_under}
use Rattle.cron_schedule.proofs.ZoneLemmas.{passed_more, passed_next, passing-before, passing-reached}
use Rattle.cron_schedule.proofs.AfterLemmas.{none_joined, first_joined}
use Rattle.cron_schedule.proofs.clock.first_by_rules.Goals as goal

pub stretch_end-until-requires-clause-begin : goal.stretch_end-until-requires-clause-begin
stretch_end-until-requires-clause-begin g c =
    passing-before (begin_at c.args.standard c.args.rules.now) c.loop-at.at c.loop-at.begins c.loop-at.invariant.begins

pub stretch_end-until-requires-clause-end : goal.stretch_end-until-requires-clause-end
stretch_end-until-requires-clause-end g c =
    passing-before (end_at c.args.rules.now) c.loop-at.at c.loop-at.ends c.loop-at.invariant.ends

pub returns-in-Some-clause-first : goal.returns-in-Some-clause-first
returns-in-Some-clause-first g c =
    first_joined (is_utc_due c.args.cron.now (offset_under c.args.standard c.args.rules.now)) c.args.from c.loop-at.at c.stretch_end-until.result 4102444800 c.in-Some.second c.loop-at.invariant.least c.stretch_end-until.ensures.most c.loop-at.invariant.none c.in-Some.ensures.first

pub loop-at-preserved : goal.loop-at-preserved
loop-at-preserved g c =
    let standard = c.args.standard in
    let rules = c.args.rules.now in
    let at = c.loop-at.at in
    let until = c.stretch_end-until.result in
    let known = c.loop-at.invariant in
    let stretch = c.stretch_end-until.ensures in
    let new_begins = c.passed_later-begins.ensures in
    let new_ends = c.passed_later-ends.ensures in
    let begins : c.loop-at.begins.count ≤ c.passed_later-begins.result.count = passed_more (begin_at standard rules) (pos at) (pos until) c.loop-at.begins.count c.passed_later-begins.result.count known.begins.count new_begins.count (omega (arith, signed_arith, stretch.later)) in
    let ends : c.loop-at.ends.count ≤ c.passed_later-ends.result.count = passed_more (end_at rules) (pos at) (pos until) c.loop-at.ends.count c.passed_later-ends.result.count known.ends.count new_ends.count (omega (arith, signed_arith, stretch.later)) in
    let so_far = known.cost c.loop-at-test.true in
    record {
      begins = new_begins;
      ends = new_ends;
      begin = known.begin;
      end = known.end;
      least = omega (arith, known.least, stretch.later);
      most = stretch.most;
      none = none_joined (is_utc_due c.args.cron.now (offset_under standard rules)) c.args.from at until known.none c.in_default.ensures.first;
      cost = λ lt. elim stretch.reached [
        | inl e ↦ absurd (omega arith)
        | inr change ↦ elim change [
          | inl h ↦
              let more = passed_next (begin_at standard rules) (pos until) c.loop-at.begins.count c.passed_later-begins.result.count new_begins.count h.0 (passing-reached (begin_at standard rules) (pos at) c.loop-at.begins until known.begins h) in
              omega (arith, so_far, c.in_default.ensures.cost, stretch.later, begins, ends, more)
          | inr h ↦
              let more = passed_next (end_at rules) (pos until) c.loop-at.ends.count c.passed_later-ends.result.count new_ends.count h.0 (passing-reached (end_at rules) (pos at) c.loop-at.ends until known.ends h) in
              omega (arith, so_far, c.in_default.ensures.cost, stretch.later, begins, ends, more)
        ]
      ];
      bound = omega (arith, so_far, c.in_default.ensures.cost, stretch.later, begins, ends);
    }
