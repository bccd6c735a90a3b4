use Rattle.std.proofs.Common.{◌≡◌, ◌+◌, pos, arith}
use Rattle.jiff_core.specs.Calendar.{days_from_civil}
use Rattle.jiff_core.proofs.SignedLemmas.{signed_casts}
use Rattle.cron_schedule.specs.Zones.{rule_day}
use Rattle.cron_schedule.proofs.zones.rule_second_of.Goals as goal

pub returns-clause-value : goal.returns-clause-value
returns-clause-value c =
    let date = c.rule_date.result in
    let same : days_from_civil date.year date.month date.day ≡ days_from_civil (pos (1970 + c.args.year)) c.args.rule.now.month (rule_day c.args.rule.now (pos (1970 + c.args.year))) = rw (c.rule_date.ensures.year, c.rule_date.ensures.month, c.rule_date.ensures.day) in
    let day = c.to_unix_epoch_day-day.ensures in
    omega (arith, signed_casts, day.value, day.bound, same, c.time.ensures.most, c.time.ensures.value)

pub returns-clause-bound : goal.returns-clause-bound
returns-clause-bound c =
    let day = c.to_unix_epoch_day-day.ensures in
    (omega (arith, signed_casts, day.bound, c.time.ensures.most), omega (arith, signed_casts, day.bound, c.time.ensures.most))
