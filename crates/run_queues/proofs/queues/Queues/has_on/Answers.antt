use Rattle.std.proofs.Common.{◌≡◌, ℕ, ◌==◌, ◌||◌, Bool, true, false, Option, None, Some, [], refl, ◌∙◌}
use Rattle.std.specs.List.{list_any}
use Rattle.job_lane.specs.declared.runs.RunnerRun.{RunnerRun}
use Rattle.executor_history.specs.declared.records.Working.{Working}
use Rattle.run_queues.specs.declared.serving.Serving.{Serving}
use Rattle.run_queues.specs.Serving.{served_run, working_as, put_served, is_of_log}
use Rattle.run_queues.proofs.Served.{any_served}
use Rattle.run_queues.proofs.queues.Queues.has_on.Goals as goal

or_false : (b : Bool) → b ≡ (b || false)
or_false true = refl
or_false false = refl

of_log : (log : ℕ) (s : Serving) (o : Option RunnerRun) → is_of_log log o ≡ list_any (λ (w : Working). log == w.run.log) (put_served (working_as s o) [])
of_log log s None = refl
of_log log s (Some run) = or_false (log == run.log)

pub returns : goal.returns
returns c =
    let es = c.self.inside.lanes.entries in
    let ss = c.self.inside.serving.items in
    let same = any_served (λ (w : Working). c.args.log == w.run.log) (λ (s : Serving). is_of_log c.args.log (served_run es s)) es (λ s o e. rw e (of_log c.args.log s o)) ss in
    rw (← c.self.view_is) (rw c.as_slice.ensures.value at c.some_serves.ensures ∙ same)
