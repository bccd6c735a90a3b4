use Rattle.std.proofs.Common.{map}
use Rattle.executor_history.specs.Runs.{expired_of}
use Rattle.run_queues.specs.Order.{Hold, in_order}
use Rattle.run_queues.specs.Serving.{by_runner, Serve}
use Rattle.run_queues.proofs.Holds.{same, queue_same, seen, as_seen}
use Rattle.run_queues.proofs.Served.{all_expired, shown, as_shown}
use Rattle.run_queues.proofs.Counted.{counts-seen}
use Rattle.run_queues.proofs.queues.Queues.expire.Goals as goal

hold : (c : goal.After-expire_served) → Hold c.expire_served.new.lanes.entries c.self.inside.fronts.items (in_order c.self.inside.lanes.entries) c.self.inside.last
hold c =
    let es = c.self.inside.lanes.entries in
    let es' = c.expire_served.new.lanes.entries in
    same es es' c.self.inside.fronts.items (in_order es) c.self.inside.last c.self.invariant.0 c.expire_served.ensures.once (queue_same es es' c.expire_served.ensures.queues)

serve : (c : goal.After-expire_served) → Serve c.expire_served.new.lanes.entries c.self.inside.serving.items (map (expired_of c.args.at) (by_runner c.self.inside.lanes.entries c.self.inside.serving.items))
serve c =
    let es = c.self.inside.lanes.entries in
    let ss = c.self.inside.serving.items in
    all_expired c.args.at es c.expire_served.new.lanes.entries ss (by_runner es ss) c.self.invariant.1 (rw c.as_slice.ensures.value at c.expire_served.ensures.on_runners)

pub invariant_of-self : goal.invariant_of-self
invariant_of-self c =
    let es = c.self.inside.lanes.entries in
    let es' = c.expire_served.new.lanes.entries in
    let ss = c.self.inside.serving.items in
    (as_seen es' c.self.inside.fronts.items (in_order es) c.self.inside.last (hold c), as_shown es' ss (map (expired_of c.args.at) (by_runner es ss)) (serve c), c.self.invariant.2, counts-seen es' c.self.inside.fronts.items (in_order es) c.self.inside.last c.self.inside.logs.entries (hold c) c.self.invariant.3)

pub returns-clause-runs : goal.returns-clause-runs
returns-clause-runs c =
    let es = c.self.inside.lanes.entries in
    rw (← c.self.view_is) (seen c.expire_served.new.lanes.entries c.self.inside.fronts.items (in_order es) c.self.inside.last (hold c))

pub returns-clause-on_runners : goal.returns-clause-on_runners
returns-clause-on_runners c =
    let es = c.self.inside.lanes.entries in
    let ss = c.self.inside.serving.items in
    rw (← c.self.view_is) (shown c.expire_served.new.lanes.entries ss (map (expired_of c.args.at) (by_runner es ss)) (serve c))
