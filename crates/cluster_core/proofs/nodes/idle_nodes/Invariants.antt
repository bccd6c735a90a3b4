use Rattle.std.proofs.Common.{◌≡◌, ◌≤◌, map, replicate, vec_len, vec_capacity}
use Rattle.job_values.specs.declared.limits.TheConstants.{ADMINS}
use Rattle.cluster_plan.specs.Nodes.{node_in, idle}
use Rattle.cluster_core.proofs.nodes.idle_nodes.Given as goal

abbrev pub invariant-loop : goal.invariant-loop
invariant-loop l = record {
  kept : map node_in l.nodes.items ≡ replicate l.counter idle;
  len : vec_len l.nodes ≡ l.counter;
  room : ADMINS ≤ vec_capacity l.nodes;
}
