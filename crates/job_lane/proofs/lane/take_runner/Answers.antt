use Rattle.std.proofs.Common.{◌≡◌, ◌==◌, position, None, Some, sym, ◌∙◌, add-one}
use Rattle.job_lane.specs.declared.runs.RunnerRun.{RunnerRun}
use Rattle.job_lane.proofs.Places.{nowhere_of, found_of}
use Rattle.job_lane.proofs.lane.take_runner.Goals as goal

pub returns-in-None-clause-result : goal.returns-in-None-clause-result
returns-in-None-clause-result c =
    let p = λ (run : RunnerRun). c.args.runner == run.runner in
    let e : position p c.args.on_runners.now.items ≡ None = cc (c.in-None.ensures, c.as_slice.ensures.value) in
    sym (nowhere_of p c.args.on_runners.now.items e).found

pub returns-in-None-clause-items : goal.returns-in-None-clause-items
returns-in-None-clause-items c =
    let p = λ (run : RunnerRun). c.args.runner == run.runner in
    let e : position p c.args.on_runners.now.items ≡ None = cc (c.in-None.ensures, c.as_slice.ensures.value) in
    sym (nowhere_of p c.args.on_runners.now.items e).left

pub returns-in-Some-clause-result : goal.returns-in-Some-clause-result
returns-in-Some-clause-result c =
    let p = λ (run : RunnerRun). c.args.runner == run.runner in
    let e : position p c.args.on_runners.now.items ≡ Some c.in-Some.place = cc (c.in-Some.ensures, c.as_slice.ensures.value) in
    let at = found_of p c.args.on_runners.now.items c.in-Some.place c.remove.result e in
    cc (c.remove.ensures.value, at.found)

pub returns-in-Some-clause-items : goal.returns-in-Some-clause-items
returns-in-Some-clause-items c =
    let p = λ (run : RunnerRun). c.args.runner == run.runner in
    let e : position p c.args.on_runners.now.items ≡ Some c.in-Some.place = cc (c.in-Some.ensures, c.as_slice.ensures.value) in
    let at = found_of p c.args.on_runners.now.items c.in-Some.place c.remove.result e in
    c.remove.ensures.items ∙ (rw add-one at (sym at.left))
