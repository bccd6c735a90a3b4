use Rattle.std.proofs.Common.{◌∙◌, pos}
use Rattle.cron_schedule.proofs.ZoneLemmas.{offset_after-is}
use Rattle.cron_schedule.proofs.zones.offset_by_rules.Goals as goal

pub returns : goal.returns
returns c =
    let begins = c.passed_by-begins.ensures in
    let ends = c.passed_by-ends.ensures in
    c.offset_past.ensures ∙ offset_after-is c.args.standard c.args.rules.now (pos c.args.at) (pos c.args.at) c.passed_by-begins.result c.passed_by-ends.result begins.rule ends.rule begins.passed ends.passed begins.passed.count ends.passed.count
