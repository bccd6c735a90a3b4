use Rattle.std.proofs.Common.{◌<◌, length, sym, ap, ◌∙◌, arith}
use Rattle.std.proofs.lemmas.List.Edits.{map_over_more}
use Rattle.job_lane.specs.Runs.{ended_run}
use Rattle.job_lane.proofs.lane.end_running.Goals as goal

pub loop-run-preserved : goal.loop-run-preserved
loop-run-preserved c =
    let within : c.loop-run.run-index < length c.args.on_runners.now.items = omega (arith, ap length c.deref_mut-run-items.ensures.value) in
    rw (c.ended.ensures ∙ ap ended_run (sym c.run-item.is)) (map_over_more ended_run c.args.on_runners.now.items c.loop-run.run-items c.loop-run.run-index c.run-item.result within c.loop-run.invariant c.run-item.is)
