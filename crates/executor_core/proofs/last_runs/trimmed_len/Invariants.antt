use Rattle.std.proofs.Common.{◌≡◌, ◌≤◌, count_by, take}
use Rattle.executor_core.specs.Rows.{is_trimmed_run}
use Rattle.executor_core.proofs.last_runs.trimmed_len.Given as goal

abbrev pub invariant-loop-place : goal.invariant-loop-place
invariant-loop-place l = (l.count ≡ count_by (is_trimmed_run l.at l.held.ids l.queues.on_runners) (take l.place l.runs.items)) × (l.count ≤ l.place)
