use Rattle.std.proofs.Common.{sym}
use Rattle.node_plans.proofs.ShownLemmas.{planned-shown}
use Rattle.node_plans.proofs.shown.plan_read_log.Goals as goal

pub returns : goal.returns
returns c = rw (c.answer.ensures, c.shown.ensures, c.in_ok-row.ensures) (planned-shown _ c.args.log c.in-Some.row.now (sym c.in-Some.ensures))
