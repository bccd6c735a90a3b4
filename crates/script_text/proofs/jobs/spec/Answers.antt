use Rattle.std.proofs.lemmas.Result.{err_from_is_err_and}
use Rattle.script_text.specs.Lines.{spec_at}
use Rattle.script_text.proofs.SpecReading.{zone_gives, zone_fails}
use Rattle.script_text.proofs.jobs.spec.Goals as goal

pub returns-in_err-zone : goal.returns-in_err-zone
unfolding spec_at
returns-in_err-zone c =
    let p = err_from_is_err_and c.from_residual-in_err-zone.result c.from_residual-in_err-zone.ensures.1 in
    rw (c.in_ok-group.ensures, c.in_ok-kind.ensures, c.in_ok-schedule.ensures, c.in_ok-rule.ensures, c.in_ok-way.ensures, c.in_ok-strategy.ensures, c.in_ok-handler.ensures, c.in_ok-param.ensures, c.in_ok-timeout.ensures, c.in_ok-retries.ensures, c.in_ok-end.ensures, p.1, p.2)
    (zone_fails c.in_ok-end.end _ c.children.new.reader.rest.now c.in_err-zone.field-0.0 c.in_err-zone.ensures)

pub returns : goal.returns
unfolding spec_at
returns c =
    rw (c.in_ok-group.ensures, c.in_ok-kind.ensures, c.in_ok-schedule.ensures, c.in_ok-rule.ensures, c.in_ok-way.ensures, c.in_ok-strategy.ensures, c.in_ok-handler.ensures, c.in_ok-param.ensures, c.in_ok-timeout.ensures, c.in_ok-retries.ensures, c.in_ok-end.ensures, c.schedule_kind.ensures, c.misfire.ensures, c.route.ensures, c.block.ensures)
    (zone_gives c.in_ok-end.end _ c.children.new.reader.rest.now c.in_ok-zone.zone c.zone.new.reader.rest.now c.in_ok-zone.ensures)
