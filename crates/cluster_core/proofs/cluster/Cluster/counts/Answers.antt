use Rattle.std.proofs.Common.{◌≡◌, length, sym, ap, ◌∙◌, subst, min, ◌^◌, ◌-◌, arith}
use Rattle.std.specs.Prelude.{count_by}
use Rattle.cluster_plan.specs.Nodes.{node_in}
use Rattle.cluster_core.specs.contracts.cluster.Cluster.{the_view}
use Rattle.cluster_core.specs.Kept.{ClusterState, kept_of}
use Rattle.cluster_plan.specs.Stands.{Stands}
use Rattle.cluster_history.specs.Records.{records_of}
use Rattle.cluster_core.specs.Stands.{StandsFor}
use Rattle.std.proofs.lemmas.List.{length-map}
use Rattle.job_values.specs.declared.limits.TheConstants.{ADMINS}
use Rattle.job_records.specs.Tables.{Tables}
use Rattle.cluster_history.specs.History.{accepted}
use Rattle.cluster_history.specs.Jobs.{jobs_of}
use Rattle.cluster_history.specs.Logs.{logs_of}
use Rattle.cluster_history.specs.Settling.{is_settled, is_failed}
use Rattle.cluster_history.specs.Runs.{waiting_in, queued_in}
use Rattle.cluster_history.specs.Replies.{counted_to}
use Rattle.cluster_core.proofs.CountLemmas.{waiting-counted, queued-counted, queued-few, counted-by}
use Rattle.cluster_core.proofs.cluster.Cluster.counts.Goals as goal

pub count_queued-requires : goal.count_queued-requires
count_queued-requires c =
    let few = queued-few c.self.inside.nodes.items c.self.invariant.limits in
    let many : length c.self.inside.nodes.items ≡ ADMINS = sym (length-map c.self.inside.nodes.items node_in) ∙ c.self.invariant.nodes in
    omega arith

pub returns : goal.returns
returns c = λ h s.
    let stands : Stands (kept_of (the_view c.self.inside)) (accepted h) = let P = λ (k : ClusterState). StandsFor k h in subst P (sym c.self.view_is) s in
    let rows : c.self.inside.records.kept ≡ records_of (accepted h) = stands.keeps.tables in
    let jobs : c.jobs.result.now ≡ jobs_of (accepted h) = c.jobs.ensures ∙ ap (λ (t : Tables). t.jobs) rows in
    let logs : c.logs-logs.result.now ≡ logs_of (accepted h) = c.logs-logs.ensures ∙ ap (λ (t : Tables). t.logs) rows in
    let waiting : c.count_waiting.result ≡ counted_to (waiting_in (accepted h)) = c.count_waiting.ensures ∙ ap (λ n. min n (2 ^ 64 - 1)) (waiting-counted c.self.inside.nodes.items (accepted h) stands.keeps.nodes) in
    let queued : c.count_queued.result ≡ queued_in (accepted h) = c.count_queued.ensures ∙ queued-counted c.self.inside.nodes.items (accepted h) stands.keeps.nodes in
    let settled : c.count_settled.result ≡ count_by is_settled (logs_of (accepted h)) = c.count_settled.ensures ∙ ap (count_by is_settled) logs in
    let failed : c.count_failed.result ≡ count_by is_failed (logs_of (accepted h)) = c.count_failed.ensures ∙ ap (count_by is_failed) logs in
    counted-by (accepted h) _ _ _ _ _ _ (ap length jobs) (ap length logs) settled failed waiting queued
