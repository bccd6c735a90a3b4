use Rattle.std.proofs.Common.{◌≡◌, ◌+◌, ◌≤◌, None, length, take}
use Rattle.std.specs.List.{filter, find}
use Rattle.job_records.specs.LogClasses.{is_awaited, log_ids}
use Rattle.settle_log.specs.Settling.{is_lost}
use Rattle.settle_log.proofs.losses.lost_of.Given as goal

abbrev pub invariant-loop-place : goal.invariant-loop-place
invariant-loop-place g l = record {
  none : find (is_lost l.now l.records.kept.registry) (take l.place (filter is_awaited l.records.kept.logs)) ≡ None;
  within : l.place ≤ length (log_ids is_awaited l.records.kept.logs);
  steps : l.steps ≡ l.fn.steps + l.place;
}
