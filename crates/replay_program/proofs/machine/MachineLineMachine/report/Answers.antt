use Rattle.std.proofs.Common.{◌++◌, ap, ◌∙◌}
use Rattle.cluster_history.specs.Runs.{run}
use Rattle.replay_program.specs.Script.{opening}
use Rattle.replay_program.proofs.ScriptLemmas.{reports_run}
use Rattle.replay_program.proofs.machine.MachineLineMachine.report.Goals as goal

pub returns : goal.returns
returns c = λ settings events stands count.
    c.in_ok-push_text.ensures
    ∙ ap (λ told. c.args.out.now.items ++ told)
    (c.in_ok-text.ensures ∙ reports_run settings c.args.lines events c.counts-counts.result count (c.counts-counts.ensures (run (opening settings) events) stands))
