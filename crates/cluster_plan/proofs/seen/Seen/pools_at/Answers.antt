use Rattle.std.proofs.Common.{ap}
use Rattle.cluster_plan.specs.Nodes.{NodeKept}
use Rattle.cluster_plan.proofs.seen.Seen.pools_at.Goals as goal

pub returns : goal.returns
returns c = ap (λ (one : NodeKept). one.pools) c.node_at.ensures
