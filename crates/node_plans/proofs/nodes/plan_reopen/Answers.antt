use Rattle.std.proofs.Common.{◌≡◌, ℕ, List, ◌++◌, length, map, ap, sym, ◌∙◌}
use Rattle.std.specs.List.{concat}
use Rattle.cluster_history.specs.declared.taken.TakenLog.{TakenLog}
use Rattle.cluster_plan.specs.Nodes.{NodeKept, node_in}
use Rattle.cluster_plan.specs.Kept.{Kept, kept_in, logs_in}
use Rattle.cluster_plan.proofs.AdminLemmas.{map-mapped}
use Rattle.node_plans.specs.Endings.{endings, all_held}
use Rattle.node_plans.proofs.StopLemmas.{planned-reopen}
use Rattle.node_plans.proofs.nodes.plan_reopen.Goals as goal

pub returns : goal.returns
returns c =
    let kept : Kept = kept_in c.args.seen.now in
    let logs = c.args.seen.now.records.now.kept.logs in
    let ids : c.in_ok-ids.ids.items ≡ all_held kept =
    c.in_ok-ids.ensures
    ∙ ap (λ (lists : List (List ℕ)). concat lists ++ map (λ (t : TakenLog). t.log) kept.taken) (sym (map-mapped (λ (one : NodeKept). logs_in one.pools) node_in c.args.seen.now.nodes.now.items)) in
    let ended : c.count-ended.result ≡ length (all_held kept) = c.count-ended.ensures ∙ ap length ids in
    let changes : c.of.result ≡ endings logs (all_held kept) = c.of.ensures ∙ c.in_ok-changes.ensures ∙ ap (endings logs) ids in
    rw (c.changing.ensures, changes) (planned-reopen kept c.lost_tickets-lost.result c.count-ended.result c.requires.rules c.lost_tickets-lost.ensures ended)
