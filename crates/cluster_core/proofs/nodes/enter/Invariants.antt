use Rattle.std.proofs.Common.{◌≡◌, ◌≤◌, ◌+◌, length, take}
use Rattle.cluster_plan.specs.Nodes.{entered}
use Rattle.cluster_core.proofs.nodes.enter.Given as goal

abbrev pub invariant-loop-log : goal.invariant-loop-log
invariant-loop-log l = record {
  kept : l.pools.kept ≡ entered l.initial.pools.kept (take l.log-index l.log-items);
  room : length l.log-items ≤ l.pools.room.logs + l.log-index;
}
