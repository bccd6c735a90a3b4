use Rattle.std.proofs.Common.{◌+◌, ◌-◌, ◌*◌, ◌<◌, ◌≤◌, pos}
use Rattle.cron_schedule.specs.First.{NonePasses}
use Rattle.cron_schedule.specs.Due.{is_utc_due}
use Rattle.cron_schedule.specs.Zones.{begin_at, end_at, offset_under, IsPassing, IsRule}
use Rattle.cron_schedule.proofs.clock.first_by_rules.Given as goal

abbrev pub invariant-loop-at : goal.invariant-loop-at
invariant-loop-at g l = record {
  begins : IsPassing (begin_at l.standard l.rules) (pos l.at) l.begins;
  ends : IsPassing (end_at l.rules) (pos l.at) l.ends;
  begin : IsRule l.rules.begin;
  end : IsRule l.rules.end;
  least : l.fn.from ≤ l.at;
  most : l.at ≤ 4102444800;
  none : NonePasses (is_utc_due l.cron (offset_under l.standard l.rules)) l.fn.from l.at;
  cost : l.at < 4102444800 → 86400 * l.steps + l.fn.from ≤ 86400 * l.fn.steps + l.at + 172800 * (l.begins.count + l.ends.count);
  bound : 86400 * l.steps + l.fn.from ≤ 86400 * l.fn.steps + l.at + 172800 * (l.begins.count + l.ends.count + 1);
}

abbrev pub decreases-loop-at : goal.decreases-loop-at
decreases-loop-at g l = 4102444800 - l.at
