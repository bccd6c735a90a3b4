use Rattle.std.proofs.Common.{◌≡◌, ◌==◌, ◌&&◌, ℕ, nat_eq, take, if◌then◌else◌, None}
use Rattle.std.specs.List.{list_any}
use Rattle.indexmap.specs.IndexMap.{IsUnique}
use Rattle.executor_core.specs.declared.last_runs.LastRun.{LastRun}
use Rattle.executor_core.specs.Rows.{row_of, is_trimmed_run}
use Rattle.executor_core.proofs.known.drop_rows.Given as goal

abbrev pub invariant-loop-place : goal.invariant-loop-place
invariant-loop-place l =
    ((n : ℕ) → row_of n l.rows.entries ≡ (if list_any (λ (run : LastRun). n == run.log && is_trimmed_run l.at l.held.ids l.queues.on_runners run) (take l.place l.runs.items) then None else row_of n l.fn.rows.entries))
    × IsUnique nat_eq l.rows
