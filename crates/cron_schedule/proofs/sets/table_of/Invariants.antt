use Rattle.std.proofs.Common.{◌≡◌, ◌+◌, ◌-◌, length}
use Rattle.cron_schedule.specs.Sets.{in_field}
use Rattle.cron_schedule.specs.Tables.{IsFirstsFrom}
use Rattle.cron_schedule.proofs.sets.table_of.Given as goal

abbrev pub invariant-loop-at : goal.invariant-loop-at
invariant-loop-at g l = record {
  firsts : IsFirstsFrom (λ w. in_field l.fn.field l.fn.items (l.fn.start + w)) l.at (g.row.N - 1) l.table;
  long : length l.table ≡ g.row.N;
}
