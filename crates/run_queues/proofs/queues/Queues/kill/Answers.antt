use Rattle.std.proofs.Common.{not, map, filter, sym, subst, ◌∙◌, ap, arith}
use Rattle.executor_history.specs.declared.records.Queued.{Queued}
use Rattle.executor_history.specs.Runs.{is_queued_of, ended_of}
use Rattle.run_queues.specs.Order.{Hold, in_order, lane_of, without_front, QueuesView, HasRoom}
use Rattle.run_queues.specs.Serving.{by_runner, Serve}
use Rattle.run_queues.specs.Waiting.{Counts}
use Rattle.run_queues.proofs.Holds.{dropped, rises, seen, as_seen, queue_ended, lane_front, lane_room}
use Rattle.run_queues.proofs.Served.{ended, shown, as_shown}
use Rattle.run_queues.proofs.Counted.{dropped-counts, counts-seen}
use Rattle.run_queues.proofs.queues.Queues.kill.Goals as goal

pub take_first-requires : goal.take_first-requires
take_first-requires c = rises c.self.inside.lanes.entries c.self.inside.fronts.items (in_order c.self.inside.lanes.entries) c.self.inside.last c.self.invariant.0

hold : (c : goal.After-kill) → Hold c.kill.new.lanes.entries c.take_first.new.fronts.items (filter (λ (q : Queued). not (is_queued_of c.args.job q)) (in_order c.self.inside.lanes.entries)) c.self.inside.last
hold c =
    let es = c.self.inside.lanes.entries in
    let es' = c.kill.new.lanes.entries in
    let fs = c.self.inside.fronts.items in
    dropped c.args.job es es' fs c.take_first.new.fronts.items (in_order es) c.self.inside.last c.self.invariant.0 c.kill.ensures.once (queue_ended c.args.job es es' c.kill.ensures.queues)
    (c.take_first.ensures.items ∙ ap (λ o. without_front o fs) (c.first_front.ensures ∙ lane_front c.args.job es))

serve : (c : goal.After-kill) → Serve c.kill.new.lanes.entries c.self.inside.serving.items (map (ended_of c.args.job) (by_runner c.self.inside.lanes.entries c.self.inside.serving.items))
serve c =
    let es = c.self.inside.lanes.entries in
    let ss = c.self.inside.serving.items in
    ended c.args.job es c.kill.new.lanes.entries ss (by_runner es ss) c.self.invariant.1 c.kill.ensures.on_runners

counts : (c : goal.After-kill) → Counts c.take_all.new.logs.entries (filter (λ (q : Queued). not (is_queued_of c.args.job q)) (in_order c.self.inside.lanes.entries))
counts c =
    let es = c.self.inside.lanes.entries in
    dropped-counts c.args.job (lane_of c.args.job es).queue c.self.inside.logs.entries c.take_all.new.logs.entries (in_order es) c.self.invariant.3 (c.self.invariant.0.queues_are c.args.job) c.take_all.ensures.once c.take_all.ensures.times

pub invariant_of-self : goal.invariant_of-self
invariant_of-self c =
    let es = c.self.inside.lanes.entries in
    let es' = c.kill.new.lanes.entries in
    let ss = c.self.inside.serving.items in (
      as_seen es' c.take_first.new.fronts.items (filter (λ (q : Queued). not (is_queued_of c.args.job q)) (in_order es)) c.self.inside.last (hold c),
      as_shown es' ss (map (ended_of c.args.job) (by_runner es ss)) (serve c),
      omega (arith, c.self.invariant.2, c.take_first.ensures.len, c.take_first.ensures.capacity),
      counts-seen es' c.take_first.new.fronts.items (filter (λ (q : Queued). not (is_queued_of c.args.job q)) (in_order es)) c.self.inside.last c.take_all.new.logs.entries (hold c) (counts c),
    )

pub returns-clause-runs : goal.returns-clause-runs
returns-clause-runs c =
    let es = c.self.inside.lanes.entries in
    rw (← c.self.view_is) (seen c.kill.new.lanes.entries c.take_first.new.fronts.items (filter (λ (q : Queued). not (is_queued_of c.args.job q)) (in_order es)) c.self.inside.last (hold c))

pub returns-clause-on_runners : goal.returns-clause-on_runners
returns-clause-on_runners c =
    let es = c.self.inside.lanes.entries in
    let ss = c.self.inside.serving.items in
    rw (← c.self.view_is) (shown c.kill.new.lanes.entries ss (map (ended_of c.args.job) (by_runner es ss)) (serve c))

pub returns-clause-room : goal.returns-clause-room
returns-clause-room c j had =
    let P : QueuesView → Type 0 = λ v. HasRoom j v in
    let here = subst P (sym c.self.view_is) had in
    record {
      queue = omega (arith, here.queue, lane_room j c.self.inside.lanes.entries, lane_room j c.kill.new.lanes.entries, c.kill.ensures.room j);
      front = omega (arith, here.front, c.take_first.ensures.len, c.take_first.ensures.capacity);
      log = omega (arith, here.log, c.take_all.ensures.room);
    }
