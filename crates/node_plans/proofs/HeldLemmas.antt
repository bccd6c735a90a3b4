-- The logs that an admin has, and that all admins have.
use Rattle.std.proofs.Common.{◌≡◌, ℕ, ◌+◌, ◌<◌, List, [], ◌∷◌, ◌++◌, Bool, true, false, cond, eqb, length, map, filter, take, get_or, refl, sym, ap, ◌∙◌, append-nil}
use Rattle.std.specs.List.{concat}
use Rattle.std.proofs.lemmas.List.{map-append, take_more, map_more}
use Rattle.std.proofs.lemmas.List.Elements.{filter-append}
use Rattle.std.proofs.lemmas.List.Folds.{concat-append}
use Rattle.job_values.specs.declared.limits.TheConstants.{ADMINS}
use Rattle.trigger_pool.specs.Pool.{Queues}
use Rattle.cluster_history.specs.declared.taken.TakenLog.{TakenLog}
use Rattle.cluster_history.specs.History.{History}
use Rattle.cluster_history.specs.Nodes.{admins}
use Rattle.cluster_history.specs.Logs.{queued_at}
use Rattle.cluster_history.specs.Orders.{held_by}
use Rattle.cluster_history.proofs.Reopened.{held_all}
use Rattle.cluster_plan.specs.declared.node.Node.{Node}
use Rattle.cluster_plan.specs.Nodes.{NodeKept}
use Rattle.cluster_plan.specs.Kept.{Kept, logs_in}
use Rattle.cluster_plan.specs.Stands.{Stands, node_of}
use Rattle.cluster_plan.proofs.AdminLemmas.{map-mapped}
use Rattle.cluster_plan.proofs.StandsLemmas.{pools-stand}
use Rattle.node_plans.specs.Endings.{taken_in, held_in, all_held}

-- the logs of both pools of a node
abbrev pub queued_logs : Node → List ℕ
queued_logs one = logs_in one.pools.kept

-- one taken log more
one-taken : (b : Bool) (one : TakenLog) → map (λ (t : TakenLog). t.log) (cond b (one ∷ []) []) ≡ cond b (one.log ∷ []) []
one-taken true one = refl
one-taken false one = refl

pub taken-more : (taken : List TakenLog) (admin i : ℕ) (one : TakenLog) → i < length taken → one ≡ get_or taken i one → taken_in (take (i + 1) taken) admin ≡ taken_in (take i taken) admin ++ cond (eqb one.admin admin) (one.log ∷ []) []
taken-more taken admin i one within is =
    ap (λ ts. taken_in ts admin) (take_more taken i one within ∙ ap (λ x. take i taken ++ x ∷ []) (sym is))
    ∙ ap (map (λ (t : TakenLog). t.log)) (filter-append (λ (t : TakenLog). eqb t.admin admin) (take i taken) (one ∷ []))
    ∙ map-append (λ (t : TakenLog). t.log) (filter (λ (t : TakenLog). eqb t.admin admin) (take i taken)) (cond (eqb one.admin admin) (one ∷ []) [])
    ∙ ap (λ ids. taken_in (take i taken) admin ++ ids) (one-taken (eqb one.admin admin) one)

-- the pools of one admin more
pub pools-more : (nodes : List Node) (i : ℕ) (one : Node) → i < length nodes → one ≡ get_or nodes i one
    → concat (map queued_logs (take (i + 1) nodes)) ≡ concat (map queued_logs (take i nodes)) ++ queued_logs one
pools-more nodes i one within is =
    ap concat (map_more queued_logs nodes i one within ∙ ap (λ (n : Node). map queued_logs (take i nodes) ++ queued_logs n ∷ []) (sym is))
    ∙ concat-append (map queued_logs (take i nodes)) (queued_logs one ∷ [])
    ∙ ap (λ q. concat (map queued_logs (take i nodes)) ++ q) (append-nil (queued_logs one))

-- what an admin has is what it has by the history
pub held-stands : (kept : Kept) (h : History) (admin : ℕ) → admin < ADMINS → Stands kept h → held_in kept admin ≡ held_by h admin
held-stands kept h admin below s =
    ap (λ (q : Queues). logs_in q ++ taken_in kept.taken admin) (pools-stand kept h admin below s)
    ∙ ap (λ (taken : List TakenLog). queued_at h admin ++ taken_in taken admin) s.keeps.taken

-- and so of all
pub all_held-stand : (kept : Kept) (h : History) → Stands kept h → all_held kept ≡ held_all h
all_held-stand kept h s =
    ap (λ (nodes : List NodeKept). concat (map (λ one. logs_in one.pools) nodes) ++ map (λ t. t.log) kept.taken) s.keeps.nodes
    ∙ ap (λ (lists : List (List ℕ)). concat lists ++ map (λ t. t.log) kept.taken) (map-mapped (λ (one : NodeKept). logs_in one.pools) (node_of h) admins)
    ∙ ap (λ (taken : List TakenLog). concat (map (queued_at h) admins) ++ map (λ t. t.log) taken) s.keeps.taken
