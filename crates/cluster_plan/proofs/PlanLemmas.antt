-- Plans that change nothing, and plans of changes.
use Rattle.std.proofs.Common.{◌≡◌, ℕ, List, [], ◌∷◌, Bool, true, false, ◌||◌, refl, sym, ap, ◌∙◌, subst}
use Rattle.std.specs.List.{list_any}
use Rattle.job_events.specs.declared.cluster.ClusterEvent.{ClusterEvent}
use Rattle.job_events.specs.declared.cluster.ClusterReply.{ClusterReply}
use Rattle.job_events.specs.declared.cluster.ClusterReply.TheVariants.{Refused}
use Rattle.job_events.specs.declared.cluster.ClusterRefusal.{ClusterRefusal}
use Rattle.job_events.specs.declared.cluster.ClusterRefusal.TheVariants.{NodeStopped}
use Rattle.job_records.specs.declared.change.Change.{Change}
use Rattle.job_records.specs.Changes.{AreAllowed}
use Rattle.cluster_history.specs.History.{History, After, accepted, is_refusal, with_entry}
use Rattle.cluster_history.specs.Runs.{IsWithin}
use Rattle.cluster_history.specs.Replies.{reply_of, refused, if_running}
use Rattle.cluster_plan.specs.declared.prepared.NodeChange.TheVariants as node
use Rattle.cluster_plan.specs.Prepared.{PreparedEvent}
use Rattle.cluster_plan.specs.Kept.{Kept}
use Rattle.cluster_plan.specs.Commits.{committed}
use Rattle.cluster_plan.specs.Plans.{IsPlanned, HasIdsFirst, gives_ids}
use Rattle.cluster_plan.specs.Stands.{Stands, Keeps}

-- changes of which none gives the last ids
pub no-ids-first : (changes : List Change) → list_any gives_ids changes ≡ false → HasIdsFirst changes
no-ids-first [] none = refl
no-ids-first (change ∷ changes) none = behind (gives_ids change) (list_any gives_ids changes) none
  where
    behind : (b c : Bool) → (b || c) ≡ false → c ≡ false
    behind true c never = let e : ⊥ = cc never in absurd e
    behind false c none = none

-- a refusal changes nothing
pub planned-refused : (kept : Kept) (e : ClusterEvent) (why : ClusterRefusal) → ((h : History) → Stands kept (accepted h) → reply_of h e ≡ refused why) → IsPlanned kept e (record { reply = Refused why; changes = []; node = node.Nothing })
planned-refused kept e why replies = record { allowed = tt; ids = refl; refused = λ is. refl; answers = λ h s. record { reply = sym (replies h s); stands = s } }

-- changes that are allowed answer an event, where the reply is the defined one, and what is kept then stands for the accepted entries with this one
pub planned : (kept : Kept) (e : ClusterEvent) (prepared : PreparedEvent) → AreAllowed kept.tables prepared.changes → HasIdsFirst prepared.changes → IsWithin e → is_refusal prepared.reply ≡ false
    → ((h : History) → Stands kept (accepted h) → reply_of h e ≡ prepared.reply)
    → ((h : History) → Stands kept h → Keeps (committed kept prepared) (After h e prepared.reply))
    → IsPlanned kept e prepared
planned kept e prepared allowed ids within accepts replies stands = record {
  allowed = allowed;
  ids = ids;
  refused = λ is. let e : true ≡ false = sym is ∙ accepts in let never : ⊥ = cc e in absurd never;
  answers = λ h s. record {
    reply = sym (replies h s);
    stands = let P : Bool → Type 0 = λ b. Stands (committed kept prepared) (with_entry b (accepted h) e prepared.reply) in
        subst P (sym accepts) (record { opens = s.opens; within = (s.within, within); answered = (s.answered, sym (replies h s), accepts); keeps = stands (accepted h) s });
  };
}

-- an answer that changes nothing
pub planned-answered : (kept : Kept) (e : ClusterEvent) (r : ClusterReply) → IsWithin e → is_refusal r ≡ false
    → ((h : History) → Stands kept (accepted h) → reply_of h e ≡ r)
    → ((h : History) → Stands kept h → Keeps kept (After h e r))
    → IsPlanned kept e (record { reply = r; changes = []; node = node.Nothing })
planned-answered kept e r within accepts replies stands = planned kept e (record { reply = r; changes = []; node = node.Nothing }) tt refl within accepts replies stands

-- an admin that does not run is refused
pub refused-stopped : (runs : Bool) (admin : ℕ) (answer : ClusterReply) → runs ≡ false → if_running runs admin answer ≡ refused (NodeStopped admin)
refused-stopped runs admin answer stopped = ap (λ b. if_running b admin answer) stopped

-- one that runs is answered
pub answered-running : (runs : Bool) (admin : ℕ) (answer : ClusterReply) → runs ≡ true → if_running runs admin answer ≡ answer
answered-running runs admin answer running = ap (λ b. if_running b admin answer) running
