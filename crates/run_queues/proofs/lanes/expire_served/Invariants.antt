use Rattle.std.proofs.Common.{◌≡◌, ◌==◌, ℕ, nat_eq, take, map, if◌then◌else◌}
use Rattle.std.specs.List.{list_any}
use Rattle.job_lane.specs.Runs.{expired_run}
use Rattle.indexmap.specs.IndexMap.{IsUnique}
use Rattle.run_queues.specs.declared.serving.Serving.{Serving}
use Rattle.run_queues.specs.Order.{lane_of}
use Rattle.run_queues.proofs.lanes.expire_served.Given as goal

abbrev pub invariant-loop-served : goal.invariant-loop-served
invariant-loop-served l =
    ((j : ℕ) → (lane_of j l.lanes.entries).queue ≡ (lane_of j l.fn.lanes.entries).queue)
    × ((j : ℕ) → (lane_of j l.lanes.entries).on_runners ≡ (if list_any (λ (s : Serving). s.job == j) (take l.served-index l.serving) then map (expired_run l.now) (lane_of j l.fn.lanes.entries).on_runners else (lane_of j l.fn.lanes.entries).on_runners))
    × IsUnique nat_eq l.lanes
