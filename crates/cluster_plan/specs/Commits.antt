-- What a prepared event makes of what is kept.
use Rattle.std.specs.Prelude.{ℕ, ◌==◌, [], map, filter, not, Some, None}
use Rattle.job_records.specs.Changes.{applied_all, without}
use Rattle.cluster_history.specs.Orders.{put_taken}
use Rattle.cluster_history.specs.Pages.{unless_owner, stepped}
use Rattle.cluster_plan.specs.declared.prepared.NodeChange.{NodeChange}
use Rattle.cluster_plan.specs.declared.prepared.NodeChange.TheVariants as node
use Rattle.cluster_plan.specs.Prepared.{PreparedEvent}
use Rattle.cluster_plan.specs.Nodes.{NodeKept, nodes_with, started, stopped, after_step, after_ring, after_firing, after_take, after_sending}
use Rattle.cluster_plan.specs.Kept.{Kept}

-- what is kept with the record of one admin changed
abbrev pub with_node : ℕ → (NodeKept → NodeKept) → Kept → Kept
with_node admin change kept = record kept { nodes = nodes_with admin change kept.nodes }

-- what an event changes beside the rows
abbrev pub node_changed : NodeChange → Kept → Kept
node_changed node.Nothing kept = kept
node_changed (node.Starts admin) kept = with_node admin started kept
node_changed (node.Stops admin) kept = with_node admin stopped (record kept { scan = unless_owner admin kept.scan; taken = filter (λ t. not (t.admin == admin)) kept.taken })
node_changed node.StopsAll kept = record kept { scan = None; taken = []; nodes = map stopped kept.nodes }
node_changed (node.Begins scan) kept = record kept { scan = Some scan }
node_changed (node.Steps admin put logs) kept = with_node admin (after_step put logs) (record kept { scan = stepped kept.scan })
node_changed (node.Turns admin second logs) kept = with_node admin (after_ring second logs) kept
node_changed (node.Fires admin logs) kept = with_node admin (after_firing logs) kept
node_changed (node.Takes admin pool taken pick) kept = with_node admin (after_take pool pick) (record kept { taken = put_taken taken kept.taken })
node_changed (node.Sends admin log job start end) kept =
    with_node admin (after_sending (record { job = job; start = start; end = end })) (record kept { taken = without (λ t. t.log) log kept.taken })

-- what is kept after a prepared event
abbrev pub committed : Kept → PreparedEvent → Kept
committed kept prepared = record (node_changed prepared.node kept) { tables = applied_all kept.tables prepared.changes }
