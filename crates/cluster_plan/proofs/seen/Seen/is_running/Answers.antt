use Rattle.std.proofs.Common.{ap, ◌∙◌, arith}
use Rattle.cluster_history.specs.History.{accepted}
use Rattle.cluster_plan.specs.Nodes.{NodeKept}
use Rattle.cluster_plan.specs.Kept.{kept_in}
use Rattle.cluster_plan.proofs.StandsLemmas.{node-stands}
use Rattle.cluster_plan.proofs.seen.Seen.is_running.Goals as goal

pub returns : goal.returns
returns c = λ h s.
    ap (λ (one : NodeKept). one.running) (c.node_at.ensures ∙ node-stands (kept_in c.args.self.now) (accepted h) c.args.admin (omega arith) s)
