use Rattle.std.proofs.Common.{◌≡◌, ℕ, count_by, take, ap, ◌∙◌, arith}
use Rattle.executor_core.specs.Rows.{is_trimmed_run}
use Rattle.executor_core.proofs.LastRuns.{first_counts}
use Rattle.executor_core.proofs.last_runs.trimmed_len.Goals as goal

pub returns : goal.returns
returns c =
    let all : c.loop-place.place ≡ c.old_len-old.result = omega arith in
    c.loop-place.invariant.0
    ∙ (ap (λ (n : ℕ). count_by (is_trimmed_run c.args.at c.args.held.now.ids c.args.queues.now.on_runners) (take n c.args.runs.now.items)) all
    ∙ first_counts c.args.at c.args.held.now.ids c.args.queues.now.on_runners c.old_len-old.result c.args.runs.now.items c.old_len-old.ensures.rest)
