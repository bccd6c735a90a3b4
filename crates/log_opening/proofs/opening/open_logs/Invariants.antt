use Rattle.log_opening.proofs.OpeningLemmas.{OpensUp}
use Rattle.log_opening.proofs.opening.open_logs.Given as goal

abbrev pub invariant-loop-index : goal.invariant-loop-index
invariant-loop-index l =
    OpensUp l.row l.param l.kind l.time l.total l.index l.initial.openings l.openings l.opened.items
