use Rattle.std.proofs.Common.{nat_lt, ap, ◌∙◌}
use Rattle.run_queues.specs.Order.{in_order}
use Rattle.run_queues.specs.Waiting.{is_run_of}
use Rattle.run_queues.proofs.Counted.{any-counted}
use Rattle.run_queues.proofs.queues.Queues.has_log.Goals as goal

pub returns : goal.returns
returns c = rw (← c.self.view_is) (c.some_waits.ensures ∙ (ap (nat_lt 0) (c.self.invariant.3.times_are c.args.log) ∙ any-counted (is_run_of c.args.log) (in_order c.self.inside.lanes.entries)))
