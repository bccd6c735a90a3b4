use Rattle.std.proofs.Common.{◌∙◌, sym, refl, rules}
use Rattle.cluster_history.specs.History.{accepted}
use Rattle.cluster_history.specs.Pages.{page_limit}
use Rattle.cluster_plan.specs.Kept.{kept_in}
use Rattle.cluster_plan.proofs.PlanLemmas.{planned-refused, refused-stopped}
use Rattle.scan_plans.proofs.ScanLemmas.{busy-scan, planned-scan}
use Rattle.scan_plans.proofs.scans.plan_scan.Goals as goal

pub returns-then-not-is_running : goal.returns-then-not-is_running
returns-then-not-is_running c =
    rw c.refusal.ensures (planned-refused _ _ _ (λ h s. refused-stopped _ _ _ (sym (c.is_running.ensures h s) ∙ c.if-not-is_running.true)))

pub returns-in-Some : goal.returns-in-Some
returns-in-Some c =
    rw c.refusal-in-Some.ensures (planned-refused _ _ _ (λ h s. busy-scan (kept_in c.args.seen.now) (accepted h) c.args.admin c.args.at c.in-Some.scan (sym (c.is_running.ensures h s) ∙ c.if-not-is_running.false) c.in-Some.is s))

pub returns : goal.returns
returns c =
    rw c.changing.ensures (rw c.new.ensures (rw c.beginning.ensures (planned-scan (kept_in c.args.seen.now) c.args.admin c.args.at (page_limit c.args.seen.now.settings) c.len-count.result c.in_ok-page.page.items refl c.in_ok-page.ensures (search rules) c.in_default.is
    (λ h s. sym (c.is_running.ensures h s) ∙ c.if-not-is_running.false))))
