use Rattle.std.proofs.Common.{◌≡◌, map, take}
use Rattle.std.specs.List.{filter}
use Rattle.settle_log.specs.Settling.{is_old}
use Rattle.settle_log.specs.Results.{drop_of}
use Rattle.settle_log.proofs.cleaning.clean.Given as goal

abbrev pub invariant-loop-log : goal.invariant-loop-log
invariant-loop-log l = l.changes.items ≡ map drop_of (filter (is_old l.at) (take l.log-index l.log-items))
