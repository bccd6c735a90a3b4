use Rattle.std.proofs.Common.{◌≡◌, ◌==◌, None, Some, find, sym, ◌∙◌}
use Rattle.run_queues.specs.declared.serving.Serving.{Serving}
use Rattle.run_queues.specs.Serving.{by_runner}
use Rattle.run_queues.proofs.Served.{serving_rise, on_some, on_none}
use Rattle.run_queues.proofs.queues.Queues.on.Goals as goal

pub served-requires : goal.served-requires
served-requires c =
    let es = c.self.inside.lanes.entries in
    let ss = c.self.inside.serving.items in
    rw c.as_slice.ensures.value (serving_rise es ss (by_runner es ss) c.self.invariant.1)

pub returns-in-None : goal.returns-in-None
returns-in-None c =
    let es = c.self.inside.lanes.entries in
    let ss = c.self.inside.serving.items in
    let is : find (λ (s : Serving). c.args.runner == s.runner) ss ≡ None = rw c.as_slice.ensures.value at (sym c.served.ensures ∙ c.in-None.is) in
    rw (← c.self.view_is) (sym (on_none es ss (by_runner es ss) c.args.runner c.self.invariant.1 is))

pub returns-in-Some : goal.returns-in-Some
returns-in-Some c =
    let es = c.self.inside.lanes.entries in
    let ss = c.self.inside.serving.items in
    let is : find (λ (s : Serving). c.args.runner == s.runner) ss ≡ Some c.in-Some.served = rw c.as_slice.ensures.value at (sym c.served.ensures ∙ c.in-Some.is) in
    rw (← c.self.view_is) (c.working_of.ensures ∙ on_some es ss (by_runner es ss) c.args.runner c.in-Some.served c.self.invariant.1 is)
