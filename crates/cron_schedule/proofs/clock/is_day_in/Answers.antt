use Rattle.std.proofs.Common.{◌≡◌, false, sym, ◌∙◌, FitsSigned, w32}
use Rattle.std.proofs.lemmas.Int.{to_z-of_z}
use Rattle.cron_schedule.proofs.RelationLemmas.{day_due, day_test, day_outside}
use Rattle.cron_schedule.proofs.clock.is_day_in.Goals as goal

pub returns-in-Some-clause-due : goal.returns-in-Some-clause-due
returns-in-Some-clause-due g c =
    let fits : FitsSigned w32 c.args.day = c.ranges.day in
    let place = simp to_z-of_z at c.in-Some.ensures.some.0 in
    (λ h. rw place (day_due c.args.cron.now c.in-Some.place (sym c.is_due_on.ensures.due ∙ h)), λ due. c.is_due_on.ensures.due ∙ day_test c.args.cron.now c.args.day c.in-Some.place place due)

pub returns-in-None-clause-due : goal.returns-in-None-clause-due
returns-in-None-clause-due g c =
    let fits : FitsSigned w32 c.args.day = c.ranges.day in
    let outside = simp to_z-of_z at c.in-None.ensures.none in
    (λ h. let none : c.no_day.result ≡ false = c.no_day.ensures.due in cc, λ due. absurd (day_outside c.args.cron.now c.args.day outside due))
