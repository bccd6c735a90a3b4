use Rattle.std.proofs.Common.{sym, ap, ◌∙◌, length}
use Rattle.std.proofs.lemmas.List.{length-map}
use Rattle.std.proofs.lemmas.List.Sums.{length-filter}
use Rattle.executor_history.specs.Runs.{is_queued_of}
use Rattle.run_queues.specs.Order.{in_order, lane_of, queued_in}
use Rattle.run_queues.proofs.queues.Queues.len_of.Goals as goal

pub returns : goal.returns
returns c =
    let es = c.self.inside.lanes.entries in
    rw (← c.self.view_is) (c.waiting_len.ensures ∙ (sym (length-map (lane_of c.args.job es).queue (queued_in c.args.job)) ∙ (ap length (sym (c.self.invariant.0.queues_are c.args.job)) ∙ length-filter (is_queued_of c.args.job) (in_order es))))
