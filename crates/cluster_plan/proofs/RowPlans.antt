-- Plans that change the rows alone.
use Rattle.std.proofs.Common.{◌≡◌, List, Bool, true, false, not, Option, Some, None, is_some, map, refl, sym, ap, ◌∙◌, subst}
use Rattle.std.specs.Borrow.{Bor}
use Rattle.std.specs.Option.{option_copied}
use Rattle.job_events.specs.declared.cluster.ClusterEvent.{ClusterEvent}
use Rattle.job_events.specs.declared.cluster.ClusterReply.{ClusterReply}
use Rattle.job_records.specs.declared.change.Change.{Change}
use Rattle.job_records.specs.Tables.{Tables}
use Rattle.job_records.specs.Changes.{applied_all, AreAllowed}
use Rattle.cluster_history.specs.History.{History, After, accepted, is_refusal}
use Rattle.cluster_history.specs.Nodes.{admins}
use Rattle.cluster_history.specs.Jobs.{scan_of}
use Rattle.cluster_history.specs.Orders.{taken_of}
use Rattle.cluster_history.specs.Runs.{IsWithin}
use Rattle.cluster_history.specs.Replies.{reply_of}
use Rattle.cluster_plan.specs.declared.prepared.NodeChange.TheVariants as node
use Rattle.cluster_plan.specs.Prepared.{PreparedEvent}
use Rattle.cluster_plan.specs.Kept.{Kept}
use Rattle.cluster_plan.specs.Plans.{IsPlanned, HasIdsFirst}
use Rattle.cluster_plan.specs.Stands.{Stands, node_of}
use Rattle.cluster_history.specs.Records.{records_of}
use Rattle.cluster_plan.proofs.PlanLemmas.{planned}

-- an entry leaves the scan, the taken logs, and what is kept of the admins, as they are
pub record LeavesNodes (h : History) (e : ClusterEvent) (r : ClusterReply) : Type 0 where
  pub scan : scan_of h ≡ scan_of (After h e r)
  pub taken : taken_of h ≡ taken_of (After h e r)
  pub nodes : map (node_of h) admins ≡ map (node_of (After h e r)) admins

-- changes that are allowed, and make of the rows what the entry makes of them, answer an event that leaves the nodes
pub planned-rows : (kept : Kept) (e : ClusterEvent) (r : ClusterReply) (changes : List Change) → AreAllowed kept.tables changes → HasIdsFirst changes → IsWithin e → is_refusal r ≡ false → ((h : History) → LeavesNodes h e r)
    → ((h : History) → Stands kept (accepted h) → reply_of h e ≡ r)
    → ((h : History) → Stands kept h → applied_all (records_of h) changes ≡ records_of (After h e r))
    → IsPlanned kept e (record { reply = r; changes = changes; node = node.Nothing })
planned-rows kept e r changes allowed ids within accepts leaves replies rows =
    planned kept e (record { reply = r; changes = changes; node = node.Nothing }) allowed ids within accepts replies (λ h s.
    record {
      settings = s.keeps.settings;
      tables = ap (λ (t : Tables). applied_all t changes) s.keeps.tables ∙ rows h s;
      scan = s.keeps.scan ∙ (leaves h).scan;
      taken = s.keeps.taken ∙ (leaves h).taken;
      nodes = s.keeps.nodes ∙ (leaves h).nodes;
    })

-- the same of what is prepared so, with changes that are these
pub planned-made : (kept : Kept) (e : ClusterEvent) (r : ClusterReply) (made changes : List Change) (prepared : PreparedEvent) → prepared ≡ record { reply = r; changes = made; node = node.Nothing } → made ≡ changes
    → IsPlanned kept e (record { reply = r; changes = changes; node = node.Nothing }) → IsPlanned kept e prepared
planned-made kept e r made changes prepared is same planned_so =
    let made_so : prepared ≡ record { reply = r; changes = changes; node = node.Nothing } = is ∙ ap (λ cs. record { reply = r; changes = cs; node = node.Nothing }) same in
    subst (IsPlanned kept e) (sym made_so) planned_so

copied-some : {X : Type 0} (o : Option (Bor X)) → is_some (option_copied o) ≡ is_some o
copied-some None = refl
copied-some (Some x) = refl

-- a look-up that is not none finds a row
pub seen-some : {X : Type 0} (o : Option (Bor X)) (found : Option X) (none : Bool) → option_copied o ≡ found → is_some o ≡ not none → none ≡ false → is_some found ≡ true
seen-some o found none looks says there = sym (ap is_some looks) ∙ copied-some o ∙ says ∙ ap not there
