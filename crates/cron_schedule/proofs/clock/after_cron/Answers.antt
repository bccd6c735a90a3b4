use Rattle.std.proofs.Common.{◌∙◌}
use Rattle.cron_schedule.specs.Due.{is_utc_due}
use Rattle.cron_schedule.specs.Zones.{offset_by}
use Rattle.cron_schedule.proofs.AfterLemmas.{none_whole, first_whole}
use Rattle.cron_schedule.proofs.clock.after_cron.Goals as goal

pub returns-in-None-clause-time : goal.returns-in-None-clause-time
returns-in-None-clause-time g c =
    none_whole (is_utc_due c.args.cron.now (offset_by c.args.zone.now.standard c.args.zone.now.rules)) c.args.t (rw c.get.ensures.value at c.in-None.ensures.first)

pub returns-in-Some-clause-time : goal.returns-in-Some-clause-time
returns-in-Some-clause-time g c =
    c.moment_of.ensures ∙ first_whole (is_utc_due c.args.cron.now (offset_by c.args.zone.now.standard c.args.zone.now.rules)) c.args.t c.in-Some.second (rw c.get.ensures.value at c.in-Some.ensures.first)
