-- What is read at the place of an admin.
use Rattle.std.proofs.Common.{◌≡◌, ℕ, ◌<◌, List, map, length, get_or, sym, ap, ◌∙◌}
use Rattle.std.proofs.lemmas.List.{get_or-map}
use Rattle.cluster_plan.specs.declared.node.Node.{Node}
use Rattle.cluster_plan.specs.Nodes.{node_in, node_at, idle}

-- the node at a place, as it is kept
pub node-read : (nodes : List Node) (admin place : ℕ) (one : Node) → place ≡ admin → admin < length nodes → one ≡ get_or nodes place one → node_in one ≡ node_at (map node_in nodes) admin
node-read nodes admin place one here below is =
    ap node_in (is ∙ ap (λ n. get_or nodes n one) here) ∙ sym (get_or-map node_in nodes admin one idle below)
