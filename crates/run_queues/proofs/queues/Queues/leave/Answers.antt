use Rattle.std.proofs.Common.{◌≡◌, ◌==◌, None, Some, find, sym, ◌∙◌}
use Rattle.job_lane.specs.Runs.{without_first}
use Rattle.executor_history.specs.Runs.{is_on}
use Rattle.run_queues.specs.declared.serving.Serving.{Serving}
use Rattle.run_queues.specs.Order.{Hold, in_order}
use Rattle.run_queues.specs.Serving.{by_runner, Serve}
use Rattle.run_queues.proofs.Holds.{same, queue_same, seen, as_seen}
use Rattle.run_queues.proofs.Served.{serving_rise, on_none, not_left, left_served, shown, as_shown}
use Rattle.run_queues.proofs.Counted.{counts-seen}
use Rattle.run_queues.proofs.queues.Queues.leave.Goals as goal
use Rattle.run_queues.proofs.queues.Queues.leave.Goals.{After-leave}

pub served-requires : goal.served-requires
served-requires c =
    let es = c.self.inside.lanes.entries in
    let ss = c.self.inside.serving.items in
    rw c.as_slice.ensures.value (serving_rise es ss (by_runner es ss) c.self.invariant.1)

pub leave-requires : goal.leave-requires
leave-requires c =
    let es = c.self.inside.lanes.entries in
    let ss = c.self.inside.serving.items in
    serving_rise es ss (by_runner es ss) c.self.invariant.1

hold : (c : After-leave) → Hold c.forget.new.lanes.entries c.self.inside.fronts.items (in_order c.self.inside.lanes.entries) c.self.inside.last
hold c =
    let es = c.self.inside.lanes.entries in
    let es' = c.forget.new.lanes.entries in
    same es es' c.self.inside.fronts.items (in_order es) c.self.inside.last c.self.invariant.0 c.forget.ensures.once (queue_same es es' (λ j. c.forget.ensures.queues j ∙ c.finish.ensures.queues j))

serve : (c : After-leave) → Serve c.forget.new.lanes.entries c.leave.new.serving.items (without_first (is_on c.args.runner) (by_runner c.self.inside.lanes.entries c.self.inside.serving.items))
serve c =
    let es = c.self.inside.lanes.entries in
    let ss = c.self.inside.serving.items in
    let is : find (λ (s : Serving). c.args.runner == s.runner) ss ≡ Some c.in-Some.served = rw c.as_slice.ensures.value at (sym c.served.ensures ∙ c.in-Some.is) in
    left_served es c.forget.new.lanes.entries ss c.leave.new.serving.items (by_runner es ss) c.args.runner c.in-Some.served c.self.invariant.1 is (λ j. c.forget.ensures.on_runners j ∙ c.finish.ensures.on_runners j) c.leave.ensures.items

pub invariant_of-self : goal.invariant_of-self
invariant_of-self c =
    let es = c.self.inside.lanes.entries in
    let es' = c.forget.new.lanes.entries in
    let ss = c.self.inside.serving.items in
    (as_seen es' c.self.inside.fronts.items (in_order es) c.self.inside.last (hold c), as_shown es' c.leave.new.serving.items (without_first (is_on c.args.runner) (by_runner es ss)) (serve c), c.self.invariant.2, counts-seen es' c.self.inside.fronts.items (in_order es) c.self.inside.last c.self.inside.logs.entries (hold c) c.self.invariant.3)

pub returns-in-None-clause-on_runners : goal.returns-in-None-clause-on_runners
returns-in-None-clause-on_runners c =
    let es = c.self.inside.lanes.entries in
    let ss = c.self.inside.serving.items in
    let is : find (λ (s : Serving). c.args.runner == s.runner) ss ≡ None = rw c.as_slice.ensures.value at (sym c.served.ensures ∙ c.in-None.is) in
    rw (← c.self.view_is) (sym (not_left c.args.runner (by_runner es ss) (on_none es ss (by_runner es ss) c.args.runner c.self.invariant.1 is)))

pub returns-in-Some-clause-runs : goal.returns-in-Some-clause-runs
returns-in-Some-clause-runs c =
    let es = c.self.inside.lanes.entries in
    rw (← c.self.view_is) (seen c.forget.new.lanes.entries c.self.inside.fronts.items (in_order es) c.self.inside.last (hold c))

pub returns-in-Some-clause-on_runners : goal.returns-in-Some-clause-on_runners
returns-in-Some-clause-on_runners c =
    let es = c.self.inside.lanes.entries in
    let ss = c.self.inside.serving.items in
    rw (← c.self.view_is) (shown c.forget.new.lanes.entries c.leave.new.serving.items (without_first (is_on c.args.runner) (by_runner es ss)) (serve c))
