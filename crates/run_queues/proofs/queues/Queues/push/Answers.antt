use Rattle.std.proofs.Common.{◌<◌, ◌≤◌, nat_eq, ◌∷◌, [], ◌++◌, if◌then◌else◌, Bool, sym, ◌∙◌, ap, subst, arith}
use Rattle.std.specs.Map.{lookup}
use Rattle.run_queues.specs.Order.{Hold, in_order, front_of, lane_of, queued_in, room_in, QueuesView}
use Rattle.run_queues.specs.Serving.{by_runner, Serve}
use Rattle.run_queues.specs.Waiting.{is_run_of}
use Rattle.run_queues.proofs.Holds.{pushed, queue_pushed, some_map, lane_room, seen, as_seen}
use Rattle.run_queues.proofs.Served.{kept, shown, as_shown}
use Rattle.run_queues.proofs.Counted.{counted-most, pushed-counts, counts-seen}
use Rattle.run_queues.proofs.queues.Queues.push.Goals as goal

pub push-requires : goal.push-requires
push-requires c =
    let P : QueuesView → Type 0 = λ v. 1 ≤ room_in (lookup (nat_eq c.args.new.job) v.rooms) in
    rw (lane_room c.args.new.job c.self.inside.lanes.entries) (subst P (sym c.self.view_is) c.requires.room.queue)

pub add-requires-clause-fits : goal.add-requires-clause-fits
add-requires-clause-fits c =
    let P : QueuesView → Type 0 = λ v. v.last < c.args.new.run.number in
    omega (arith, subst P (sym c.self.view_is) c.requires.later, c.self.invariant.3.times_are c.args.new.run.log, counted-most (is_run_of c.args.new.run.log) 0 c.self.inside.last (in_order c.self.inside.lanes.entries) c.self.invariant.0.rises)

hold : (c : goal.After-push) → Hold c.push.new.lanes.entries c.add-2.new.fronts.items (in_order c.self.inside.lanes.entries ++ c.args.new ∷ []) c.args.new.run.number
hold c =
    let es = c.self.inside.lanes.entries in
    let fs = c.self.inside.fronts.items in
    let job = c.args.new.job in
    let P : QueuesView → Type 0 = λ v. v.last < c.args.new.run.number in
    let waits = c.waits-waits.ensures ∙ sym (some_map (queued_in job) (lane_of job es).queue) in
    let fronts = c.add-2.ensures.items ∙ ap (λ (b : Bool). if b then fs else fs ++ front_of c.args.new ∷ []) waits in
    pushed c.args.new es c.push.new.lanes.entries fs c.add-2.new.fronts.items (in_order es) c.self.inside.last c.self.invariant.0
    (subst P (sym c.self.view_is) c.requires.later) c.push.ensures.once (queue_pushed job c.args.new.run es c.push.new.lanes.entries c.push.ensures.queues) fronts

serve : (c : goal.After-push) → Serve c.push.new.lanes.entries c.self.inside.serving.items (by_runner c.self.inside.lanes.entries c.self.inside.serving.items)
serve c =
    let es = c.self.inside.lanes.entries in
    let ss = c.self.inside.serving.items in
    kept es c.push.new.lanes.entries ss (by_runner es ss) c.self.invariant.1 c.push.ensures.on_runners

pub invariant_of-self : goal.invariant_of-self
invariant_of-self c =
    let es = c.self.inside.lanes.entries in
    let ss = c.self.inside.serving.items in
    (as_seen c.push.new.lanes.entries c.add-2.new.fronts.items (in_order es ++ c.args.new ∷ []) c.args.new.run.number (hold c), as_shown c.push.new.lanes.entries ss (by_runner es ss) (serve c), c.add-2.ensures.room, counts-seen c.push.new.lanes.entries c.add-2.new.fronts.items (in_order es ++ c.args.new ∷ []) c.args.new.run.number c.add.new.logs.entries (hold c) (pushed-counts c.self.inside.logs.entries c.add.new.logs.entries (in_order es) c.args.new c.self.invariant.3 c.add.ensures.once c.add.ensures.times))

pub returns-clause-runs : goal.returns-clause-runs
returns-clause-runs c =
    rw (← c.self.view_is) (seen c.push.new.lanes.entries c.add-2.new.fronts.items (in_order c.self.inside.lanes.entries ++ c.args.new ∷ []) c.args.new.run.number (hold c))

pub returns-clause-on_runners : goal.returns-clause-on_runners
returns-clause-on_runners c =
    let es = c.self.inside.lanes.entries in
    let ss = c.self.inside.serving.items in
    rw (← c.self.view_is) (shown c.push.new.lanes.entries ss (by_runner es ss) (serve c))
