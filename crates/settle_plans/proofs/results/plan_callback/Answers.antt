use Rattle.std.proofs.Common.{◌≡◌, ◌∙◌, None, FitsSigned, to_z, of_z, w32, ap, sym, true, false, rules, arith}
use Rattle.std.proofs.lemmas.Int.{to_z-of_z}
use Rattle.std.specs.Option.{option_copied}
use Rattle.cluster_history.specs.History.{accepted}
use Rattle.cluster_history.specs.Settling.{log_with, is_positive}
use Rattle.cluster_plan.specs.Kept.{kept_in}
use Rattle.cluster_plan.proofs.PlanLemmas.{planned-refused, refused-stopped}
use Rattle.settle_plans.proofs.ResultLemmas.{bad-callback, callback-reply}
use Rattle.settle_plans.proofs.results.plan_callback.Goals as goal

pub returns-then-not-is_running : goal.returns-then-not-is_running
returns-then-not-is_running c =
    rw c.refusal.ensures (planned-refused _ _ _ (λ h s. refused-stopped _ _ _ (sym (c.is_running.ensures h s) ∙ c.if-not-is_running.true)))

pub returns-then-not-is_positive : goal.returns-then-not-is_positive
returns-then-not-is_positive c =
    let fits : FitsSigned w32 c.args.item.now.code = search rules in
    let back : to_z w32 (of_z w32 c.args.item.now.code) ≡ c.args.item.now.code = to_z-of_z w32 c.args.item.now.code fits in
    let bad : is_positive c.args.item.now.code ≡ false = sym (ap is_positive back) ∙ sym c.is_positive.ensures ∙ c.if-not-is_positive.true in
    rw c.refusal-then-not-is_positive.ensures (planned-refused _ _ _ (λ h s.
    bad-callback (accepted h) c.args.admin c.args.at c.args.item.now (sym (c.is_running.ensures h s) ∙ c.if-not-is_running.false) bad))

pub returns-in_default : goal.returns-in_default
returns-in_default c =
    let fits : FitsSigned w32 c.args.item.now.code = search rules in
    let back : to_z w32 (of_z w32 c.args.item.now.code) ≡ c.args.item.now.code = to_z-of_z w32 c.args.item.now.code fits in
    let positive : is_positive c.args.item.now.code ≡ true = sym (ap is_positive back) ∙ sym c.is_positive.ensures ∙ c.if-not-is_positive.false in
    let found : log_with c.args.item.now.log c.args.seen.now.records.now.kept.logs ≡ None = sym c.log.ensures ∙ ap option_copied c.in_default.is in
    rw c.refusal-in_default.ensures (planned-refused _ _ _ (λ h s.
    callback-reply (kept_in c.args.seen.now) (accepted h) c.args.admin c.args.at c.args.item.now None (omega arith) (sym (c.is_running.ensures h s) ∙ c.if-not-is_running.false) positive found s))
