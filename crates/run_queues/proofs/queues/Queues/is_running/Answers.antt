use Rattle.std.proofs.Common.{◌∙◌}
use Rattle.run_queues.specs.Serving.{by_runner}
use Rattle.run_queues.proofs.Served.{lane_runs}
use Rattle.run_queues.proofs.queues.Queues.is_running.Goals as goal

pub returns : goal.returns
returns c =
    let es = c.self.inside.lanes.entries in
    let ss = c.self.inside.serving.items in
    rw (← c.self.view_is) (c.is_running.ensures ∙ lane_runs es ss (by_runner es ss) c.args.job c.self.invariant.1)
