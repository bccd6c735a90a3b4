use Rattle.std.proofs.Common.{ℤ, arith, ap, pos, ◌∙◌, ◌+ℤ◌}
use Rattle.jiff_core.proofs.SignedLemmas.{signed_arith}
use Rattle.cron_schedule.specs.Due.{is_clock_due, is_utc_due}
use Rattle.cron_schedule.specs.Zones.{begin_at, end_at, offset_under}
use Rattle.cron_schedule.proofs.ZoneLemmas.{change_at-rises, passed_on, passing-next, offset_after-is}
use Rattle.cron_schedule.proofs.AfterLemmas.{first_same}
use Rattle.cron_schedule.proofs.clock.first_in_stretch.Goals as goal

pub returns-clause-first : goal.returns-clause-first
returns-clause-first g c =
    let cron = c.args.cron.now in
    let standard = c.args.standard in
    let rules = c.args.rules.now in
    let from = c.args.from in
    let until = c.args.until in
    let known = c.requires in
    first_same (λ u. is_clock_due cron (pos u +ℤ c.offset_past-offset.result)) (is_utc_due cron (offset_under standard rules)) from until c.first_between.result
    (λ v low below.
    let begins = passed_on (begin_at standard rules) (pos from) (pos v) until c.args.begins.count (change_at-rises rules.begin standard known.begin) known.begins.count (passing-next (begin_at standard rules) (pos from) c.args.begins until known.begins known.next_begin) (omega (arith, signed_arith)) (omega (arith, signed_arith)) in
    let ends = passed_on (end_at rules) (pos from) (pos v) until c.args.ends.count (change_at-rises rules.end rules.daylight known.end) known.ends.count (passing-next (end_at rules) (pos from) c.args.ends until known.ends known.next_end) (omega (arith, signed_arith)) (omega (arith, signed_arith)) in
    ap (λ (o : ℤ). is_clock_due cron (pos v +ℤ o)) (c.offset_past-offset.ensures ∙ offset_after-is standard rules (pos from) (pos v) c.args.begins c.args.ends known.begin known.end known.begins known.ends begins ends))
    c.first_between.ensures.first
