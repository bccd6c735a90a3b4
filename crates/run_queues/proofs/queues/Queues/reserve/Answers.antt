use Rattle.std.proofs.Common.{Result, Ok, Err, OnOk, arith}
use Rattle.run_queues.specs.Order.{Hold, in_order}
use Rattle.run_queues.specs.Serving.{by_runner, Serve}
use Rattle.run_queues.proofs.Holds.{same, queue_same, lane_room, seen, as_seen}
use Rattle.run_queues.proofs.Served.{kept, shown, as_shown}
use Rattle.run_queues.proofs.Counted.{counts-seen}
use Rattle.run_queues.proofs.queues.Queues.reserve.Goals as goal

hold : (c : goal.After-reserve-3) → Hold c.reserve-3.new.lanes.entries c.self.inside.fronts.items (in_order c.self.inside.lanes.entries) c.self.inside.last
hold c =
    let es = c.self.inside.lanes.entries in
    let es' = c.reserve-3.new.lanes.entries in
    same es es' c.self.inside.fronts.items (in_order es) c.self.inside.last c.self.invariant.0 c.reserve-3.ensures.once (queue_same es es' c.reserve-3.ensures.queues)

serve : (c : goal.After-reserve-3) → Serve c.reserve-3.new.lanes.entries c.self.inside.serving.items (by_runner c.self.inside.lanes.entries c.self.inside.serving.items)
serve c =
    let es = c.self.inside.lanes.entries in
    let ss = c.self.inside.serving.items in
    kept es c.reserve-3.new.lanes.entries ss (by_runner es ss) c.self.invariant.1 c.reserve-3.ensures.on_runners

pub invariant_of-self-2 : goal.invariant_of-self-2
invariant_of-self-2 c =
    let es = c.self.inside.lanes.entries in
    let es' = c.reserve-3.new.lanes.entries in
    let ss = c.self.inside.serving.items in
    let fronts : Hold es' c.reserve.new.self.items (in_order es) c.self.inside.last = rw c.reserve.ensures.items (hold c) in
    (as_seen es' c.reserve.new.self.items (in_order es) c.self.inside.last fronts, as_shown es' ss (by_runner es ss) (serve c), omega (arith, c.self.invariant.2, c.reserve.ensures.len, c.reserve.ensures.capacity), rw c.reserve-2.ensures.entries (counts-seen es' c.self.inside.fronts.items (in_order es) c.self.inside.last c.self.inside.logs.entries (hold c) c.self.invariant.3))

pub returns-clause-runs : goal.returns-clause-runs
returns-clause-runs c =
    let es = c.self.inside.lanes.entries in
    rw (← c.self.view_is) (seen c.reserve-3.new.lanes.entries c.self.inside.fronts.items (in_order es) c.self.inside.last (hold c))

pub returns-clause-on_runners : goal.returns-clause-on_runners
returns-clause-on_runners c =
    let es = c.self.inside.lanes.entries in
    let ss = c.self.inside.serving.items in
    rw (← c.self.view_is) (shown c.reserve-3.new.lanes.entries ss (by_runner es ss) (serve c))

on_ok : {T E : Type 0} (r : Result T E) (P Q : Type 0) → (P → Q) → OnOk r P → OnOk r Q
on_ok (Ok x) P Q f h = f h
on_ok (Err e) P Q f h = h

pub returns-clause-room : goal.returns-clause-room
returns-clause-room c =
    on_ok c.reserve-3.result _ _
    (λ room. record {
      queue = omega (arith, room, lane_room c.args.job c.reserve-3.new.lanes.entries);
      front = omega (arith, c.in_ok-reserve.ensures.ok, c.reserve.ensures.len);
      log = c.in_ok-reserve-2.ensures.ok;
    }) c.reserve-3.ensures.room
