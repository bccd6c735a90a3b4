use Rattle.std.proofs.Common.{◌≡◌, take}
use Rattle.std.specs.List.{count_by}
use Rattle.job_records.specs.Room.{puts_group, puts_job, puts_log, puts_registration}
use Rattle.job_records.proofs.room.count_puts.Given as goal

abbrev pub invariant-loop-change : goal.invariant-loop-change
invariant-loop-change l = record {
  groups : l.groups ≡ count_by puts_group (take l.change-index l.changes);
  jobs : l.jobs ≡ count_by puts_job (take l.change-index l.changes);
  logs : l.logs ≡ count_by puts_log (take l.change-index l.changes);
  registry : l.registry ≡ count_by puts_registration (take l.change-index l.changes);
}
