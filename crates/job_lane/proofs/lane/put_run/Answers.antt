use Rattle.std.proofs.Common.{◌≡◌, nat_lt, position, None, Some, sym, ◌∙◌}
use Rattle.job_lane.specs.declared.runs.RunnerRun.{RunnerRun}
use Rattle.job_lane.proofs.Puts.{put_end, put_at}
use Rattle.job_lane.proofs.lane.put_run.Goals as goal

pub returns-in-None-clause-items : goal.returns-in-None-clause-items
returns-in-None-clause-items c =
    let p = λ (run : RunnerRun). nat_lt c.args.new.runner run.runner in
    let e : position p c.args.on_runners.now.items ≡ None = cc (c.in-None.ensures, c.as_slice.ensures.value) in
    c.push_reserved.ensures.items ∙ sym (put_end p c.args.new c.args.on_runners.now.items e)

pub returns-in-Some-clause-items : goal.returns-in-Some-clause-items
returns-in-Some-clause-items c =
    let p = λ (run : RunnerRun). nat_lt c.args.new.runner run.runner in
    let e : position p c.args.on_runners.now.items ≡ Some c.in-Some.place = cc (c.in-Some.ensures, c.as_slice.ensures.value) in
    rw c.insert-put.ensures.items (rw (c.insert-put.ensures.succeeds c.requires) (sym (put_at p c.args.new c.args.on_runners.now.items c.in-Some.place e)))
