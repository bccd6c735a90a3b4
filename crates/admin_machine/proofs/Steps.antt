-- A machine after a step.
use Rattle.std.proofs.Common.{◌≡◌, ℕ, List, [], ◌∷◌, ◌++◌, map, Option, Result, Ok, Err, IfOk, IfErr, refl, sym, ap, ◌∙◌, subst}
use Rattle.std.specs.Prelude.{OnErr}
use Rattle.std.proofs.lemmas.List.{map-append}
use Rattle.job_events.specs.declared.cluster.ClusterEvent.{ClusterEvent}
use Rattle.job_events.specs.declared.cluster.ClusterReply.{ClusterReply}
use Rattle.job_records.specs.Tables.{Tables}
use Rattle.cluster_history.specs.History.{History, Begin, After, accepted, after_all}
use Rattle.cluster_history.specs.Runs.{IsLegal, IsWithin}
use Rattle.cluster_history.proofs.Places.{entries-in_order}
use Rattle.cluster_plan.specs.Kept.{Kept}
use Rattle.cluster_plan.specs.Stands.{Stands as KeptStands}
use Rattle.cluster_core.specs.Kept.{ClusterState, kept_of}
use Rattle.cluster_core.specs.Stands.{StandsFor, Answers}
use Rattle.admin_machine.specs.declared.machine.AdminOpening.{AdminOpening}
use Rattle.admin_machine.specs.declared.save.AdminRefusal.{AdminRefusal}
use Rattle.admin_machine.specs.declared.save.AdminRefusal.TheVariants.{Memory, KeeperFault}
use Rattle.admin_machine.specs.Views.{Holds}
use Rattle.admin_machine.specs.Standing.{Entry, entry_of, opening_of, history_of, IsLegalList, rows_of, Stands}
use Rattle.admin_machine.specs.Refusals.{Refuses, IsCounted}

-- the history with one entry more
pub history-push : (o : AdminOpening) (log : List Entry) (e : Entry) → history_of o (log ++ e ∷ []) ≡ After (history_of o log) e.0 e.1
history-push o log e = ap (after_all (Begin (opening_of o))) (map-append entry_of log (e ∷ [])) ∙ entries-in_order.last (Begin (opening_of o)) (map entry_of log) (entry_of e)

-- a cluster that stands for the entries, over what its keeper holds
pub stands-held : (held : Option Tables) (o : AdminOpening) (log : List Entry) (cluster : ClusterState) → IsLegalList o log → StandsFor cluster (history_of o log) → Holds held (kept_of cluster).tables → Stands held o log cluster
stands-held held o log cluster legal stands holds = record { legal = legal; cluster = stands; rows = subst (Holds held) stands.keeps.tables holds }

-- what its keeper holds are then the rows that the cluster has
pub rows-held : (held : Option Tables) (o : AdminOpening) (log : List Entry) (cluster : ClusterState) → Stands held o log cluster → Holds held (kept_of cluster).tables
rows-held held o log cluster stands = subst (Holds held) (sym stands.cluster.keeps.tables) stands.rows

-- one entry more
pub stands-push : (held : Option Tables) (o : AdminOpening) (log : List Entry) (next : ClusterState) (e : ClusterEvent) (r : ClusterReply)
    → IsLegal (After (history_of o log) e r) → StandsFor next (After (history_of o log) e r) → Holds held (kept_of next).tables → Stands held o (log ++ (e, r) ∷ []) next
stands-push held o log next e r legal stands holds =
    let more = history-push o log (e, r) in
    stands-held held o (log ++ (e, r) ∷ []) next
    (subst (λ (h : History). IsLegal h) (sym more) legal)
    (subst (λ (h : History). StandsFor next h) (sym more) stands)
    holds

-- a step of a machine that stands for these entries
pub stands-step : (held next_held : Option Tables) (o : AdminOpening) (log : List Entry) (before next : ClusterState) (e : ClusterEvent) (result : Result ClusterReply AdminRefusal)
    → IsWithin e → IfOk result (λ r. Answers before e r next) → Holds next_held (kept_of next).tables → Stands held o log before → IfOk result (λ r. Stands next_held o (log ++ (e, r) ∷ []) next)
stands-step held next_held o log before next e (Ok r) within answers holds stands =
    let now = answers (history_of o log) stands.cluster in
    stands-push next_held o log next e r (stands.legal, within, now.reply) now.stands holds
stands-step held next_held o log before next e (Err x) within answers holds stands = tt

-- what a refusal tells
refuses : (o : AdminOpening) (log : List Entry) (e : ClusterEvent) (old new : ℕ) (x : AdminRefusal) → IsCounted {X = ClusterReply} old new (Err x) → Refuses o log e x
refuses o log e old new Memory counted = tt
refuses o log e old new (KeeperFault before after) counted = counted.told.2

-- a refused step
pub stands-same : (held next_held : Option Tables) (o : AdminOpening) (log : List Entry) (before next : ClusterState) (e : ClusterEvent) (old new : ℕ) (result : Result ClusterReply AdminRefusal)
    → OnErr result (kept_of next ≡ kept_of before) → Holds next_held (kept_of next).tables → IsCounted old new result → Stands held o log before → IfErr result (λ x. Stands next_held o log next × Refuses o log e x)
stands-same held next_held o log before next e old new (Ok r) same holds counted stands = tt
stands-same held next_held o log before next e old new (Err x) same holds counted stands = (
  stands-held next_held o log next stands.legal (subst (λ (kept : Kept). KeptStands kept (accepted (history_of o log))) (sym same) stands.cluster) holds,
  refuses o log e old new x counted,
)
