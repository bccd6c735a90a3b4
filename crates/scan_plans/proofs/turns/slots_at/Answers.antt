use Rattle.std.proofs.Common.{ap, ◌∙◌}
use Rattle.time_ring.specs.Ring.{tickets_in, slot_of_second, slot_before}
use Rattle.cluster_plan.specs.Nodes.{NodeKept}
use Rattle.scan_plans.proofs.turns.slots_at.Goals as goal

pub returns-clause-present : goal.returns-clause-present
returns-clause-present c =
    c.slots.ensures.present ∙ ap (λ (one : NodeKept). tickets_in one.ring (slot_of_second c.args.second)) c.node_at.ensures

pub returns-clause-past : goal.returns-clause-past
returns-clause-past c = c.slots.ensures.past ∙ ap (λ (one : NodeKept). tickets_in one.ring (slot_before c.args.second)) c.node_at.ensures
