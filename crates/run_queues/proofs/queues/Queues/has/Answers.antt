use Rattle.std.proofs.Common.{sym, ap, ◌∙◌}
use Rattle.executor_history.specs.Runs.{is_queued_of}
use Rattle.run_queues.specs.Order.{in_order, lane_of, queued_in, some_in}
use Rattle.run_queues.proofs.Holds.{any-some, some_map}
use Rattle.run_queues.proofs.queues.Queues.has.Goals as goal

pub returns : goal.returns
returns c =
    let es = c.self.inside.lanes.entries in
    rw (← c.self.view_is) (c.waits.ensures ∙ sym (any-some (is_queued_of c.args.job) (in_order es) ∙ (ap some_in (c.self.invariant.0.queues_are c.args.job) ∙ some_map (queued_in c.args.job) (lane_of c.args.job es).queue)))
