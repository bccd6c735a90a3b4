use Rattle.std.proofs.Common.{◌≡◌, nat_lt, false, rules}
use Rattle.std.proofs.lemmas.Fn.{always_returns_same}
use Rattle.executor_core.specs.declared.last_runs.LastRun.{LastRun}
use Rattle.executor_core.proofs.Firsts.{each_within}
use Rattle.executor_core.proofs.LastRuns.{older_first}
use Rattle.executor_core.proofs.last_runs.old_len.Goals as goal

pub returns-clause-rest : goal.returns-clause-rest
returns-clause-rest c =
    let p = λ (run : LastRun). nat_lt run.moment c.args.at in
    each_within (λ (run : LastRun). p run ≡ false) c.partition_point.result c.args.runs.now.items
    (c.partition_point.ensures.partitioned p (always_returns_same _ _ _ (λ a r f' called. search rules)) (older_first c.args.at c.args.runs.now.items c.requires.rises c.requires.ids)).1
