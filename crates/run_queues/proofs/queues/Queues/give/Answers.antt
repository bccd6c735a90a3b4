use Rattle.std.proofs.Common.{◌≡◌, ◌==◌, not, None, Some, find, filter, refl, sym, ap, subst, ◌∙◌, arith}
use Rattle.job_lane.specs.Runs.{without_first}
use Rattle.executor_history.specs.Runs.{is_ready, ready_front, run_on, put_working}
use Rattle.run_queues.specs.declared.front.Front.{Front}
use Rattle.run_queues.specs.Order.{Hold, in_order, put_next, QueuesView}
use Rattle.run_queues.specs.Serving.{by_runner, Serve}
use Rattle.run_queues.specs.Waiting.{Counts}
use Rattle.run_queues.proofs.Holds.{none_ready, none_taken, next_new, fewer, rises, lane_front, seen, as_seen}
use Rattle.run_queues.proofs.Served.{serving_rise, not_served, own_none, shown, as_shown}
use Rattle.run_queues.proofs.Given.{free, ready_is, queues_polled, hold_given, serve_given, counts_given}
use Rattle.run_queues.proofs.Counted.{counts-seen}
use Rattle.run_queues.proofs.queues.Queues.give.Goals as goal
use Rattle.run_queues.proofs.queues.Queues.give.Goals.{After-replace}

pub serve-requires-clause-rises : goal.serve-requires-clause-rises
serve-requires-clause-rises c =
    let es = c.self.inside.lanes.entries in
    let ss = c.self.inside.serving.items in
    serving_rise es ss (by_runner es ss) c.self.invariant.1

pub serve-requires-clause-free : goal.serve-requires-clause-free
serve-requires-clause-free c =
    let es = c.self.inside.lanes.entries in
    let ss = c.self.inside.serving.items in
    let P : QueuesView → Type 0 = λ v. run_on c.args.runner v.on_runners ≡ None in
    not_served es ss (by_runner es ss) c.args.runner c.self.invariant.1 (subst P (sym c.self.view_is) c.requires.free)

pub poll-requires : goal.poll-requires
poll-requires c =
    let es = c.self.inside.lanes.entries in
    let ss = c.self.inside.serving.items in
    let P : QueuesView → Type 0 = λ v. run_on c.args.runner v.on_runners ≡ None in
    rw (← c.self.invariant.1.lanes_are c.in-Some.front.job) (own_none c.args.runner c.in-Some.front.job (by_runner es ss) (subst P (sym c.self.view_is) c.requires.free))

pub replace-requires-clause-rises : goal.replace-requires-clause-rises
replace-requires-clause-rises c = rises c.self.inside.lanes.entries c.self.inside.fronts.items (in_order c.self.inside.lanes.entries) c.self.inside.last c.self.invariant.0

pub replace-requires-clause-new : goal.replace-requires-clause-new
replace-requires-clause-new c =
    let es = c.self.inside.lanes.entries in
    let es' = c.poll.new.lanes.entries in
    let fs = c.self.inside.fronts.items in
    let found : find (λ (g : Front). free es g.job) fs ≡ Some c.in-Some.front = sym c.ready_front.ensures ∙ c.in-Some.is in
    rw (c.first_front-next.ensures ∙ lane_front c.in-Some.front.job es') (next_new (free es) es es' fs (in_order es) c.self.inside.last c.in-Some.front c.self.invariant.0 found (queues_polled es es' fs c.in-Some.front found c.poll.ensures.queues))

pub replace-requires-clause-room : goal.replace-requires-clause-room
replace-requires-clause-room c =
    let es = c.self.inside.lanes.entries in
    let fs = c.self.inside.fronts.items in
    let found : find (λ (g : Front). free es g.job) fs ≡ Some c.in-Some.front = sym c.ready_front.ensures ∙ c.in-Some.is in
    omega (arith, c.self.invariant.2, fewer (λ (g : Front). free es g.job) c.in-Some.front fs found)

hold : (c : After-replace) → Hold c.poll.new.lanes.entries c.replace.new.fronts.items (without_first (is_ready (by_runner c.self.inside.lanes.entries c.self.inside.serving.items)) (in_order c.self.inside.lanes.entries)) c.self.inside.last
hold c =
    let es = c.self.inside.lanes.entries in
    let es' = c.poll.new.lanes.entries in
    let fs = c.self.inside.fronts.items in
    let ss = c.self.inside.serving.items in
    let found : find (λ (g : Front). free es g.job) fs ≡ Some c.in-Some.front = sym c.ready_front.ensures ∙ c.in-Some.is in
    hold_given es es' fs c.replace.new.fronts.items ss (by_runner es ss) (in_order es) c.self.inside.last c.in-Some.front c.self.invariant.0 c.self.invariant.1 found c.poll.ensures.once
    (queues_polled es es' fs c.in-Some.front found c.poll.ensures.queues)
    (c.replace.ensures.items ∙ ap (λ o. put_next o (filter (λ (g : Front). not (c.in-Some.front.number == g.number)) fs)) (c.first_front-next.ensures ∙ lane_front c.in-Some.front.job es'))

serve : (c : After-replace) → Serve c.poll.new.lanes.entries c.serve.new.serving.items (put_working c.args.runner c.args.at (ready_front (in_order c.self.inside.lanes.entries) (by_runner c.self.inside.lanes.entries c.self.inside.serving.items)) (by_runner c.self.inside.lanes.entries c.self.inside.serving.items))
serve c =
    let es = c.self.inside.lanes.entries in
    let fs = c.self.inside.fronts.items in
    let ss = c.self.inside.serving.items in
    let P : QueuesView → Type 0 = λ v. run_on c.args.runner v.on_runners ≡ None in
    let found : find (λ (g : Front). free es g.job) fs ≡ Some c.in-Some.front = sym c.ready_front.ensures ∙ c.in-Some.is in
    serve_given es c.poll.new.lanes.entries fs ss c.serve.new.serving.items (by_runner es ss) (in_order es) c.self.inside.last c.in-Some.front c.args.runner c.args.at c.self.invariant.0 c.self.invariant.1 found
    (subst P (sym c.self.view_is) c.requires.free) c.poll.ensures.on_runners c.serve.ensures.items

counts : (c : After-replace) → Counts c.take_first.new.logs.entries (without_first (is_ready (by_runner c.self.inside.lanes.entries c.self.inside.serving.items)) (in_order c.self.inside.lanes.entries))
counts c =
    let es = c.self.inside.lanes.entries in
    let fs = c.self.inside.fronts.items in
    let ss = c.self.inside.serving.items in
    let found : find (λ (g : Front). free es g.job) fs ≡ Some c.in-Some.front = sym c.ready_front.ensures ∙ c.in-Some.is in
    counts_given es fs ss (by_runner es ss) (in_order es) c.self.inside.last c.in-Some.front c.self.inside.logs.entries c.take_first.new.logs.entries c.self.invariant.0 c.self.invariant.1 found c.self.invariant.3
    c.take_first.ensures.once c.take_first.ensures.times

pub invariant_of-self : goal.invariant_of-self
invariant_of-self c =
    let es = c.self.inside.lanes.entries in
    let ss = c.self.inside.serving.items in
    let ws = by_runner es ss in (
      as_seen c.poll.new.lanes.entries c.replace.new.fronts.items (without_first (is_ready ws) (in_order es)) c.self.inside.last (hold c),
      as_shown c.poll.new.lanes.entries c.serve.new.serving.items (put_working c.args.runner c.args.at (ready_front (in_order es) ws) ws) (serve c),
      c.replace.ensures.room,
      counts-seen c.poll.new.lanes.entries c.replace.new.fronts.items (without_first (is_ready ws) (in_order es)) c.self.inside.last c.take_first.new.logs.entries (hold c) (counts c),
    )

pub returns-in-None-clause-runs : goal.returns-in-None-clause-runs
returns-in-None-clause-runs c =
    let es = c.self.inside.lanes.entries in
    let fs = c.self.inside.fronts.items in
    let ss = c.self.inside.serving.items in
    let ws = by_runner es ss in
    let found : find (λ (g : Front). free es g.job) fs ≡ None = sym c.ready_front.ensures ∙ c.in-None.is in
    let none = sym (ready_is es ss ws (in_order es) c.self.invariant.1).0 ∙ none_ready (free es) es fs (in_order es) c.self.inside.last c.self.invariant.0 found in
    rw (← c.self.view_is) (sym (none_taken (is_ready ws) (in_order es) none))

pub returns-in-None-clause-on_runners : goal.returns-in-None-clause-on_runners
returns-in-None-clause-on_runners c =
    let es = c.self.inside.lanes.entries in
    let fs = c.self.inside.fronts.items in
    let ss = c.self.inside.serving.items in
    let ws = by_runner es ss in
    let found : find (λ (g : Front). free es g.job) fs ≡ None = sym c.ready_front.ensures ∙ c.in-None.is in
    let none = sym (ready_is es ss ws (in_order es) c.self.invariant.1).0 ∙ none_ready (free es) es fs (in_order es) c.self.inside.last c.self.invariant.0 found in
    rw (← c.self.view_is) (rw none refl)

pub returns-in-Some-clause-runs : goal.returns-in-Some-clause-runs
returns-in-Some-clause-runs c =
    let es = c.self.inside.lanes.entries in
    let ws = by_runner es c.self.inside.serving.items in
    rw (← c.self.view_is) (seen c.poll.new.lanes.entries c.replace.new.fronts.items (without_first (is_ready ws) (in_order es)) c.self.inside.last (hold c))

pub returns-in-Some-clause-on_runners : goal.returns-in-Some-clause-on_runners
returns-in-Some-clause-on_runners c =
    let es = c.self.inside.lanes.entries in
    let ss = c.self.inside.serving.items in
    let ws = by_runner es ss in
    rw (← c.self.view_is) (shown c.poll.new.lanes.entries c.serve.new.serving.items (put_working c.args.runner c.args.at (ready_front (in_order es) ws) ws) (serve c))
