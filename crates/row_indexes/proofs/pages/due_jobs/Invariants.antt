use Rattle.std.proofs.Common.{◌≡◌, ◌+◌, ◌-◌, ◌≤◌, length, take}
use Rattle.row_indexes.specs.Pages.{due_ids}
use Rattle.row_indexes.proofs.pages.due_jobs.Given as goal

abbrev pub invariant-loop-job : goal.invariant-loop-job
invariant-loop-job g l = record {
  jobs : l.jobs.items ≡ take (length l.jobs.items) (due_ids l.bound l.index.keys);
  within : length l.jobs.items ≤ length (due_ids l.bound l.index.keys);
  steps : l.steps ≡ l.fn.steps + length l.jobs.items;
}

abbrev pub decreases-loop-job : goal.decreases-loop-job
decreases-loop-job g l = length (due_ids l.bound l.index.keys) - length l.jobs.items
