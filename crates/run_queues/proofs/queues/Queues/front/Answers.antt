use Rattle.std.proofs.Common.{◌≡◌, None, Some, find, sym, ap, ◌∙◌}
use Rattle.std.specs.Option.{option_map}
use Rattle.run_queues.specs.declared.front.Front.{Front}
use Rattle.run_queues.specs.Order.{in_order, queued_in}
use Rattle.run_queues.specs.Serving.{by_runner}
use Rattle.run_queues.proofs.Holds.{none_ready}
use Rattle.run_queues.proofs.Given.{free, ready_is, front_is}
use Rattle.run_queues.proofs.queues.Queues.front.Goals as goal

pub returns-in-None : goal.returns-in-None
returns-in-None c =
    let es = c.self.inside.lanes.entries in
    let fs = c.self.inside.fronts.items in
    let ss = c.self.inside.serving.items in
    let found : find (λ (g : Front). free es g.job) fs ≡ None = sym c.ready_front.ensures ∙ c.in-None.is in
    rw (← c.self.view_is) (sym (ready_is es ss (by_runner es ss) (in_order es) c.self.invariant.1).0 ∙ none_ready (free es) es fs (in_order es) c.self.inside.last c.self.invariant.0 found)

pub returns-in-None-first_run : goal.returns-in-None-first_run
returns-in-None-first_run c =
    let es = c.self.inside.lanes.entries in
    let fs = c.self.inside.fronts.items in
    let ss = c.self.inside.serving.items in
    let found : find (λ (g : Front). free es g.job) fs ≡ Some c.in-Some.front = sym c.ready_front.ensures ∙ c.in-Some.is in
    let first = rw c.in-None-first_run.is at c.first_run.ensures in
    rw (← c.self.view_is) (front_is es fs ss (by_runner es ss) (in_order es) c.self.inside.last c.in-Some.front c.self.invariant.0 c.self.invariant.1 found ∙ ap (option_map (queued_in c.in-Some.front.job)) (sym first))

pub returns-in-Some-first_run : goal.returns-in-Some-first_run
returns-in-Some-first_run c =
    let es = c.self.inside.lanes.entries in
    let fs = c.self.inside.fronts.items in
    let ss = c.self.inside.serving.items in
    let found : find (λ (g : Front). free es g.job) fs ≡ Some c.in-Some.front = sym c.ready_front.ensures ∙ c.in-Some.is in
    let first = rw c.in-Some-first_run.is at c.first_run.ensures in
    rw (← c.self.view_is) (front_is es fs ss (by_runner es ss) (in_order es) c.self.inside.last c.in-Some.front c.self.invariant.0 c.self.invariant.1 found ∙ ap (option_map (queued_in c.in-Some.front.job)) (sym first))
