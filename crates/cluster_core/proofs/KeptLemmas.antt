-- What a change beside the rows makes of what is kept.
use Rattle.std.proofs.Common.{◌≡◌, ℕ, ◌<◌, List, [], ◌∷◌, map, length, get_or, set, replicate, Option, refl, sym, ap, ◌∙◌, arith}
use Rattle.std.proofs.lemmas.List.{map-set, length-map, get_or-set_same}
use Rattle.std.proofs.Math.Seq.{map-set_same}
use Rattle.job_records.specs.Changes.{applied_all}
use Rattle.job_records.specs.Room.{RecordsState}
use Rattle.job_records.specs.Tables.{Tables}
use Rattle.cluster_history.specs.declared.scan.Scan.{Scan}
use Rattle.cluster_history.specs.declared.taken.TakenLog.{TakenLog}
use Rattle.cluster_plan.specs.declared.node.Node.{Node}
use Rattle.cluster_plan.specs.Nodes.{NodeKept, node_in, node_at, nodes_with, idle, stopped}
use Rattle.cluster_plan.specs.Prepared.{PreparedEvent}
use Rattle.cluster_plan.specs.Kept.{Kept}
use Rattle.cluster_core.specs.Kept.{ClusterState, kept_of}
use Rattle.cluster_plan.specs.Commits.{node_changed, committed}
use Rattle.cluster_plan.proofs.ReadLemmas.{node-read}

-- a node at a place, made from the one that was there
pub nodes-put : (nodes : List Node) (admin place : ℕ) (old new : Node) (change : NodeKept → NodeKept) → place ≡ admin → admin < length nodes → old ≡ get_or nodes place old → node_in new ≡ change (node_in old)
    → map node_in (set nodes place new) ≡ nodes_with admin change (map node_in nodes)
nodes-put nodes admin place old new change here below is made =
    map-set node_in nodes place new
    ∙ ap (set (map node_in nodes) place) (made ∙ ap change (node-read nodes admin place old here below is))
    ∙ ap (λ n. set (map node_in nodes) n (change (node_at (map node_in nodes) admin))) here

-- more room moves nothing
pub nodes-kept : (nodes : List Node) (place : ℕ) (old new : Node) → old ≡ get_or nodes place old → node_in new ≡ node_in old → map node_in (set nodes place new) ≡ map node_in nodes
nodes-kept nodes place old new is same = map-set_same node_in nodes place new old (same ∙ ap node_in is)

-- what is read of a node that is put at a place
pub part-put : {X : Type 0} (part : Node → X) (default : X) (nodes : List Node) (admin place : ℕ) (one : Node) → place ≡ admin → admin < length nodes → get_or (map part (set nodes place one)) admin default ≡ part one
part-put part default nodes admin place one here below =
    ap (λ n. get_or (map part (set nodes n one)) admin default) here
    ∙ ap (λ parts. get_or parts admin default) (map-set part nodes admin one)
    ∙ get_or-set_same (map part nodes) admin (part one) default (omega (arith, length-map nodes part))

-- every admin stops
pub idle-all : (nodes : List Node) → replicate (length nodes) idle ≡ map stopped (map node_in nodes)
idle-all [] = refl
idle-all (one ∷ nodes) = ap (λ rest. idle ∷ rest) (idle-all nodes)

-- what is kept, by its parts
pub kept-by : (state : ClusterState) (scan next : Option Scan) (taken left : List TakenLog) (nodes : List Node) (kept : List NodeKept) → scan ≡ next → taken ≡ left → map node_in nodes ≡ kept
    → kept_of (record state { scan = scan; taken = taken; nodes = nodes }) ≡ record (kept_of state) { scan = next; taken = left; nodes = kept }
kept-by state scan next taken left nodes kept a b d = (cc)

-- a prepared event is done
pub kept-committed : (old between : ClusterState) (records : RecordsState) (prepared : PreparedEvent) → kept_of between ≡ node_changed prepared.node (kept_of old) → between.records ≡ old.records → records.kept ≡ applied_all between.records.kept prepared.changes
    → kept_of (record between { records = records }) ≡ committed (kept_of old) prepared
kept-committed old between records prepared changed same applied =
    ap (λ (k : Kept). record k { tables = records.kept }) changed
    ∙ ap (λ (t : Tables). record (node_changed prepared.node (kept_of old)) { tables = t }) (applied ∙ ap (λ (r : RecordsState). applied_all r.kept prepared.changes) same)
