use Rattle.std.proofs.Common.{◌≡◌, ℤ, true, rules, sym, ap, ap₂, ◌∙◌, subst, w32}
use Rattle.std.specs.Prelude.{IfOk}
use Rattle.std.proofs.lemmas.Int.{to_z-of_z}
use Rattle.job_events.specs.declared.cluster.ClusterEvent.TheVariants.{Sent}
use Rattle.job_records.specs.declared.log.Log.{Log}
use Rattle.cluster_history.specs.declared.taken.TakenLog.{TakenLog}
use Rattle.cluster_history.specs.Settling.{is_positive, is_unsent, sent_log}
use Rattle.cluster_history.specs.Orders.{taken_log}
use Rattle.cluster_plan.specs.Kept.{Kept, kept_in}
use Rattle.send_plans.specs.Sendings.{is_given, sending}
use Rattle.send_plans.proofs.SendLemmas.{planned-sent}
use Rattle.send_plans.proofs.TakeLemmas.{planned-if}
use Rattle.send_plans.proofs.sendings.plan_sent.Goals as goal

pub returns : goal.returns
returns c =
    let kept : Kept = kept_in c.args.seen.now in
    let row : Log = c.in-Some.row.now in
    let taken : TakenLog = c.in-Some-row_of.taken.now in
    let positive : is_positive c.args.code ≡ true = search rules in
    let unsent : is_unsent c.in-Some.row.now ≡ true = search rules in
    let code = to_z-of_z w32 c.args.code c.ranges.code in
    let took = ap₂ taken_log (sym c.get.ensures.value) (sym c.as_slice.ensures.value) ∙ sym c.in-Some-row_of.ensures in
    let given = ap (λ (z : ℤ). is_given c.args.address.now z c.in-Some-row_of.taken.now.addresses) (sym code) ∙ sym c.is_given.ensures ∙ c.if-not-is_given.false in
    let sent = c.in_ok-sent.ensures ∙ ap (λ (z : ℤ). sent_log c.args.address.now z c.in-Some.row.now) code in
    planned-if c.sent_of.result kept (Sent c.args.log c.args.address.now c.args.code c.args.start c.args.end) (sending c.in-Some-row_of.taken.now.admin (sent_log c.args.address.now c.args.code c.in-Some.row.now) c.args.start c.args.end)
    (planned-sent kept c.args.log c.args.address.now c.args.code c.args.start c.args.end row taken c.requires.rules positive (sym c.in-Some.ensures) unsent took given)
    (subst (λ (l : Log). IfOk c.sent_of.result (λ p. p ≡ sending c.in-Some-row_of.taken.now.admin l c.args.start c.args.end)) sent c.sent_of.ensures)
