-- Beginning a scan.
use Rattle.std.proofs.Common.{◌≡◌, ℕ, List, [], ◌∷◌, true, Some, None, length, refl, sym, ap, ◌∙◌, subst}
use Rattle.job_events.specs.declared.cluster.ClusterEvent.TheVariants.{ScanBegin}
use Rattle.job_events.specs.declared.cluster.ClusterReply.TheVariants.{Begun}
use Rattle.job_events.specs.declared.cluster.ClusterRefusal.TheVariants.{Busy}
use Rattle.job_records.specs.Tables.{Tables}
use Rattle.cluster_history.specs.declared.scan.Scan.{Scan}
use Rattle.cluster_history.specs.declared.scan.PageEntry.{PageEntry}
use Rattle.cluster_history.specs.declared.settings.Settings.{Settings}
use Rattle.cluster_history.specs.History.{History, After, accepted, settings_of}
use Rattle.cluster_history.specs.Nodes.{runs}
use Rattle.cluster_history.specs.Pages.{page_in, page_limit, begun}
use Rattle.cluster_history.specs.Jobs.{page_of}
use Rattle.cluster_history.specs.Replies.{reply_after, begin_reply, refused}
use Rattle.cluster_plan.specs.Commits.{node_changed}
use Rattle.cluster_plan.specs.Kept.{Kept}
use Rattle.cluster_plan.specs.Plans.{IsPlanned}
use Rattle.cluster_plan.specs.Stands.{Stands, Keeps}
use Rattle.scan_plans.specs.Steps.{begins}
use Rattle.cluster_plan.proofs.PlanLemmas.{planned, answered-running}

-- the page of a scan, by what is kept
page-kept : (kept : Kept) (h : History) (at : ℕ) → Stands kept h → page_in (page_limit kept.settings) at kept.tables.jobs ≡ page_of h at
page-kept kept h at s =
    ap (λ (x : Settings). page_in (page_limit x) at kept.tables.jobs) s.keeps.settings ∙ ap (λ (t : Tables). page_in (page_limit (settings_of h)) at t.jobs) s.keeps.tables

-- a scan has an owner
pub busy-scan : (kept : Kept) (h : History) (admin at : ℕ) (scan : Scan) → runs h admin ≡ true → kept.scan ≡ Some scan → Stands kept h → reply_after h (ScanBegin admin at) ≡ refused (Busy scan.owner)
busy-scan kept h admin at scan running is s =
    answered-running (runs h admin) admin _ running ∙ ap (λ o. begin_reply o (page_of h at)) (sym s.keeps.scan ∙ is)

-- a scan begins, by its page
kept-begun : (kept : Kept) (admin at : ℕ) (page : List PageEntry) → kept.scan ≡ None → node_changed (begins (begun admin at page)) kept ≡ record kept { scan = begun admin at page }
kept-begun kept admin at [] free = ap (λ scan. record kept { scan = scan }) free
kept-begun kept admin at (entry ∷ page) free = refl

pub planned-scan : (kept : Kept) (admin at limit count : ℕ) (page : List PageEntry) → limit ≡ page_limit kept.settings → page ≡ page_in limit at kept.tables.jobs → count ≡ length page → kept.scan ≡ None
    → ((h : History) → Stands kept (accepted h) → runs (accepted h) admin ≡ true)
    → IsPlanned kept (ScanBegin admin at) (record { reply = Begun count; changes = []; node = begins (begun admin at page) })
planned-scan kept admin at limit count page many pages counted free running =
    let is : page ≡ page_in (page_limit kept.settings) at kept.tables.jobs = pages ∙ ap (λ n. page_in n at kept.tables.jobs) many in
    planned kept (ScanBegin admin at) (record { reply = Begun count; changes = []; node = begins (begun admin at page) }) tt refl tt refl
    (λ h s. answered-running (runs (accepted h) admin) admin _ (running h s)
    ∙ ap (λ o. begin_reply o (page_of (accepted h) at)) (sym s.keeps.scan ∙ free)
    ∙ ap (λ p. Begun (length p)) (sym (page-kept kept (accepted h) at s) ∙ sym is) ∙ ap Begun (sym counted))
    (λ h s.
    let begun_is : node_changed (begins (begun admin at page)) kept ≡ record kept { scan = begun admin at page } = kept-begun kept admin at page free in
    let P : Kept → Type 0 = λ k. Keeps (record k { tables = kept.tables }) (After h (ScanBegin admin at) (Begun count)) in
    subst P (sym begun_is) (record {
      settings = s.keeps.settings;
      tables = s.keeps.tables;
      scan = ap (λ p. begun admin at p) (is ∙ page-kept kept h at s);
      taken = s.keeps.taken;
      nodes = s.keeps.nodes;
    }))
