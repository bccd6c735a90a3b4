use Rattle.run_queues.specs.Order.{in_order, Hold}
use Rattle.run_queues.specs.Serving.{by_runner, Serve}
use Rattle.run_queues.proofs.Holds.{same, queue_same, seen, as_seen}
use Rattle.run_queues.proofs.Served.{kept, shown, as_shown}
use Rattle.run_queues.proofs.Counted.{counts-seen}
use Rattle.run_queues.proofs.queues.Queues.forget.Goals as goal

hold : (c : goal.After-forget) → Hold c.forget.new.lanes.entries c.self.inside.fronts.items (in_order c.self.inside.lanes.entries) c.self.inside.last
hold c =
    let es = c.self.inside.lanes.entries in
    let es' = c.forget.new.lanes.entries in
    same es es' c.self.inside.fronts.items (in_order es) c.self.inside.last c.self.invariant.0 c.forget.ensures.once (queue_same es es' c.forget.ensures.queues)

serve : (c : goal.After-forget) → Serve c.forget.new.lanes.entries c.self.inside.serving.items (by_runner c.self.inside.lanes.entries c.self.inside.serving.items)
serve c =
    let es = c.self.inside.lanes.entries in
    let ss = c.self.inside.serving.items in
    kept es c.forget.new.lanes.entries ss (by_runner es ss) c.self.invariant.1 c.forget.ensures.on_runners

pub invariant_of-self : goal.invariant_of-self
invariant_of-self c =
    let es = c.self.inside.lanes.entries in
    let es' = c.forget.new.lanes.entries in
    let ss = c.self.inside.serving.items in
    (as_seen es' c.self.inside.fronts.items (in_order es) c.self.inside.last (hold c), as_shown es' ss (by_runner es ss) (serve c), c.self.invariant.2, counts-seen es' c.self.inside.fronts.items (in_order es) c.self.inside.last c.self.inside.logs.entries (hold c) c.self.invariant.3)

pub returns-clause-runs : goal.returns-clause-runs
returns-clause-runs c =
    let es = c.self.inside.lanes.entries in
    rw (← c.self.view_is) (seen c.forget.new.lanes.entries c.self.inside.fronts.items (in_order es) c.self.inside.last (hold c))

pub returns-clause-on_runners : goal.returns-clause-on_runners
returns-clause-on_runners c =
    let es = c.self.inside.lanes.entries in
    let ss = c.self.inside.serving.items in
    rw (← c.self.view_is) (shown c.forget.new.lanes.entries ss (by_runner es ss) (serve c))
