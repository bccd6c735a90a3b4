use Rattle.std.proofs.Common.{◌≡◌, ℕ, ◌-◌, ◌<◌, pos, ◌≤ℤ◌}
use Rattle.cron_schedule.specs.Zones.{change_at}
use Rattle.cron_schedule.proofs.zones.passed_from.Given as goal

abbrev pub invariant-loop-year : goal.invariant-loop-year
invariant-loop-year l = record {
  passed : (k : ℕ) → k < l.year → change_at l.rule l.offset k ≤ℤ pos l.at;
  last : 0 < l.year → l.last ≡ change_at l.rule l.offset (l.year - 1);
}
