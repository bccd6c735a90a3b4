use Rattle.std.proofs.Common.{◌≡◌, length, sym, ◌∙◌, arith}
use Rattle.std.proofs.lemmas.List.{length-map}
use Rattle.job_values.specs.declared.limits.TheConstants.{ADMINS}
use Rattle.cluster_plan.specs.Nodes.{node_in}
use Rattle.cluster_plan.proofs.ReadLemmas.{node-read}
use Rattle.cluster_plan.proofs.seen.Seen.node_at.Goals as goal

pub returns : goal.returns
returns c =
    let many : length c.args.self.now.nodes.now.items ≡ ADMINS = sym (length-map c.args.self.now.nodes.now.items node_in) ∙ c.requires.nodes in
    node-read _ c.args.admin c.get.result _ c.get.ensures.value (omega arith) c.index.ensures
