use Rattle.std.proofs.Common.{◌≡◌, List, map, take, ap, ◌∙◌, arith}
use Rattle.std.specs.List.{filter}
use Rattle.std.proofs.lemmas.List.{take_all}
use Rattle.job_records.specs.declared.log.Log.{Log}
use Rattle.settle_log.specs.Settling.{is_old}
use Rattle.settle_log.specs.Results.{drop_of}
use Rattle.settle_log.proofs.CleanLemmas.{drops-clean}
use Rattle.settle_log.proofs.cleaning.clean.Goals as goal

pub returns : goal.returns
returns c =
    let end : take c.loop-log.log-index c.logs-log-items.result.now ≡ c.args.records.now.kept.logs =
    take_all c.loop-log.log-index c.logs-log-items.result.now (omega arith) ∙ c.logs-log-items.ensures in
    drops-clean c.args.at c.args.records.now.kept c.of.result c.requires
    (c.of.ensures ∙ c.loop-log.invariant ∙ ap (λ (logs : List Log). map drop_of (filter (is_old c.args.at) logs)) end)
