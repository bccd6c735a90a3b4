use Rattle.std.proofs.Common.{◌≡◌, sym, ap, ℤ, ◌∙◌}
use Rattle.cron_schedule.specs.Due.{is_due}
use Rattle.cron_schedule.specs.Zones.{offset_at}
use Rattle.cron_schedule.proofs.RelationLemmas.{due_by_test, test_by_due}
use Rattle.cron_schedule.proofs.clock.is_due_at.Goals as goal

pub returns : goal.returns
returns g c =
    let items = c.args.cron.now in
    let t = c.args.t in
    let offset = offset_at c.args.zone.now t in
    let there = rw c.get.ensures.value at c.offset_of-offset.ensures in
    let test : c.is_clock_time_due.result ≡ is_due items offset t = c.is_clock_time_due.ensures ∙ ap (λ (o : ℤ). is_due items o t) there in
    (λ h. due_by_test items offset t (sym test ∙ h), λ due. test ∙ test_by_due items offset t due)
