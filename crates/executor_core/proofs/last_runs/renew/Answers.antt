use Rattle.std.proofs.Common.{◌<◌, ◌^◌, ◌==◌, not, nat_lt, filter, List, ap, ◌∙◌}
use Rattle.job_lane.specs.Runs.{put_before}
use Rattle.rising_rows.proofs.RowLemmas.{rises-filter}
use Rattle.executor_laws.proofs.Each.{each-filter}
use Rattle.executor_core.specs.declared.last_runs.LastRun.{LastRun}
use Rattle.executor_core.specs.Rows.{run_rank}
use Rattle.executor_core.proofs.LastRuns.{gone, new_rank}
use Rattle.executor_core.proofs.last_runs.renew.Goals as goal

pub put-requires-clause-rises : goal.put-requires-clause-rises
put-requires-clause-rises c = rw c.take_last.ensures.runs (rises-filter run_rank (λ (x : LastRun). not (c.args.new.log == x.log)) 0 c.args.runs.now.items c.requires.rises)

pub put-requires-clause-new : goal.put-requires-clause-new
put-requires-clause-new c =
    let others = filter (λ (x : LastRun). not (c.args.new.log == x.log)) c.args.runs.now.items in
    rw c.take_last.ensures.runs
    (new_rank c.args.new others c.requires.low (each-filter (λ (x : LastRun). x.log < 2 ^ 64) (λ (x : LastRun). not (c.args.new.log == x.log)) c.args.runs.now.items c.requires.ids) (gone c.args.new.log c.args.runs.now.items))

pub returns : goal.returns
returns c = c.put.ensures.rows ∙ ap (λ (xs : List LastRun). put_before (λ (x : LastRun). nat_lt (run_rank c.args.new) (run_rank x)) c.args.new xs) c.take_last.ensures.runs
