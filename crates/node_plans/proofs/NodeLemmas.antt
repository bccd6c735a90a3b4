-- The start and the stop of admins.
use Rattle.std.proofs.Common.{◌≡◌, ℕ, ◌<◌, [], Bool, true, false, cond, refl, sym, ap}
use Rattle.job_events.specs.declared.cluster.ClusterEvent.TheVariants.{NodeStart, NodeAsk}
use Rattle.job_events.specs.declared.cluster.ClusterReply.TheVariants.{Done}
use Rattle.cluster_history.specs.History.{History, After, accepted}
use Rattle.cluster_history.specs.Nodes.{runs}
use Rattle.cluster_history.specs.Replies.{start_reply}
use Rattle.cluster_plan.specs.declared.prepared.NodeChange.TheVariants as node
use Rattle.cluster_plan.specs.Nodes.{NodeKept, started}
use Rattle.cluster_plan.specs.Kept.{Kept}
use Rattle.cluster_plan.specs.Commits.{with_node}
use Rattle.cluster_plan.specs.Plans.{IsPlanned}
use Rattle.cluster_plan.specs.Stands.{Stands, Keeps, ring_of, queues_of, routes_of}
use Rattle.cluster_plan.proofs.AdminLemmas.{same-admin, other-admin}
use Rattle.cluster_plan.proofs.StandsLemmas.{nodes-changed}
use Rattle.cluster_plan.proofs.PlanLemmas.{planned, planned-answered, answered-running}
use Rattle.job_values.specs.declared.limits.TheConstants.{ADMINS}

-- what is kept of an admin, by whether it runs
abbrev run_by : History → ℕ → Bool → NodeKept
run_by h admin running = record { running = running; ring = ring_of h admin; pools = queues_of h admin; routes = routes_of h admin }

-- an admin runs from its start on
pub stands-started : (kept : Kept) (h : History) (admin : ℕ) → admin < ADMINS → Stands kept h → Keeps (with_node admin started kept) (After h (NodeStart admin) Done)
stands-started kept h admin below s = record {
  settings = s.keeps.settings;
  tables = s.keeps.tables;
  scan = s.keeps.scan;
  taken = s.keeps.taken;
  nodes = nodes-changed kept h (After h (NodeStart admin) Done) admin started below s
      (ap (λ b. run_by h admin (cond b true (runs h admin))) (sym (same-admin admin)))
      (λ a other. ap (λ b. run_by h a (cond b true (runs h a))) (sym (other-admin a admin other)));
}

-- the start of an admin that does not run
pub planned-start : (kept : Kept) (admin : ℕ) → admin < ADMINS → ((h : History) → Stands kept (accepted h) → runs (accepted h) admin ≡ false)
    → IsPlanned kept (NodeStart admin) (record { reply = Done; changes = []; node = node.Starts admin })
planned-start kept admin below stopped =
    planned kept (NodeStart admin) (record { reply = Done; changes = []; node = node.Starts admin }) tt refl below refl
    (λ h s. ap (λ b. start_reply b admin) (stopped h s))
    (λ h s. stands-started kept h admin below s)

-- an admin that runs says so
pub planned-ask : (kept : Kept) (admin : ℕ) → ((h : History) → Stands kept (accepted h) → runs (accepted h) admin ≡ true)
    → IsPlanned kept (NodeAsk admin) (record { reply = Done; changes = []; node = node.Nothing })
planned-ask kept admin running =
    planned-answered kept (NodeAsk admin) Done tt refl (λ h s. answered-running (runs (accepted h) admin) admin Done (running h s))
    (λ h s. record { settings = s.keeps.settings; tables = s.keeps.tables; scan = s.keeps.scan; taken = s.keeps.taken; nodes = s.keeps.nodes })
