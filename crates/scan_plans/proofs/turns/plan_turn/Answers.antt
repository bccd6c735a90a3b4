use Rattle.std.proofs.Common.{◌≡◌, ◌<◌, ◌+◌, ◌++◌, ◌∙◌, length, List, ap, sym, subst, arith}
use Rattle.job_values.specs.declared.limits.TheConstants.{LAST_LOG_ID}
use Rattle.job_records.specs.declared.last_ids.LastIds.{LastIds}
use Rattle.time_ring.specs.declared.ticket.Ticket.{Ticket}
use Rattle.cluster_history.specs.History.{accepted}
use Rattle.cluster_plan.specs.Kept.{kept_in, pools_in}
use Rattle.log_opening.specs.Openings.{opening_changes}
use Rattle.log_opening.specs.Series.{shots_all, FiresBehind}
use Rattle.log_opening.proofs.SeriesLemmas.{series-made}
use Rattle.scan_plans.specs.Turning.{tickets_at}
use Rattle.cluster_plan.proofs.PlanLemmas.{planned-refused, refused-stopped}
use Rattle.scan_plans.proofs.TurnLemmas.{spent-turn, slots-turn, turn_tickets, planned-turn}
use Rattle.scan_plans.proofs.turns.plan_turn.Goals as goal

pub returns-then-not-is_running : goal.returns-then-not-is_running
returns-then-not-is_running c =
    rw c.refusal.ensures (planned-refused _ _ _ (λ h s. refused-stopped _ _ _ (sym (c.is_running.ensures h s) ∙ c.if-not-is_running.true)))

pub returns-then-not-fits : goal.returns-then-not-fits
returns-then-not-fits c =
    let tickets = slots-turn (kept_in c.args.seen.now) c.args.admin c.args.at c.get-second.result c.slots_at.result.0.now c.slots_at.result.1.now c.get-second.ensures.value c.slots_at.ensures.present c.slots_at.ensures.past in
    let over : LAST_LOG_ID < c.new.result.last + length (shots_all (tickets_at c.args.at) c.args.seen.now.records.now.kept (c.slots_at.result.0.now ++ c.slots_at.result.1.now)) = rw c.if-not-fits.true at c.in_ok-fits.ensures in
    let ids : c.new.result.last ≡ c.args.seen.now.records.now.kept.last.log = c.new.ensures.last ∙ ap (λ (last : LastIds). last.log) c.last_ids-last.ensures.value in
    let many = ap (λ ts. length (shots_all (tickets_at c.args.at) c.args.seen.now.records.now.kept ts)) tickets in
    rw c.refusal-then-not-fits.ensures (planned-refused _ _ _ (λ h s.
    spent-turn (kept_in c.args.seen.now) (accepted h) c.args.admin c.args.at (pools_in c.pools_at.result.now.kept) (omega arith) (ap pools_in c.pools_at.ensures) (sym (c.is_running.ensures h s) ∙ c.if-not-is_running.false) (omega (arith, over, ids, many)) s))

pub returns : goal.returns
returns c =
    let tickets = slots-turn (kept_in c.args.seen.now) c.args.admin c.args.at c.get-second.result c.slots_at.result.0.now c.slots_at.result.1.now c.get-second.ensures.value c.slots_at.ensures.present c.slots_at.ensures.past in
    let ids : c.new.result.last ≡ c.args.seen.now.records.now.kept.last.log = c.new.ensures.last ∙ ap (λ (last : LastIds). last.log) c.last_ids-last.ensures.value in
    let fired : FiresBehind (tickets_at c.args.at) c.args.seen.now.records.now.kept (c.slots_at.result.0.now ++ c.slots_at.result.1.now) c.new.result c.fire_slots.new.turned.openings c.new-2.result.items c.fire_slots.new.turned.fired.items = rw c.if-not-fits.false at c.in_ok-fits.ensures in
    let fires = subst (λ (ts : List Ticket). FiresBehind (tickets_at c.args.at) c.args.seen.now.records.now.kept ts c.new.result c.fire_slots.new.turned.openings c.new-2.result.items c.fire_slots.new.turned.fired.items) tickets fired in
    let made = c.in_ok-opened_changes.ensures
    ∙ ap (λ last. opening_changes last c.fire_slots.new.turned.openings.last c.fire_slots.new.turned.openings.puts.items) c.last_ids-last.ensures.value in
    let turns = series-made (tickets_at c.args.at) c.args.seen.now.records.now.kept (pools_in c.pools_at.result.now.kept) (turn_tickets (kept_in c.args.seen.now) c.args.admin c.args.at) c.new.result c.fire_slots.new.turned.openings
    c.new-2.result.items c.fire_slots.new.turned.fired.items c.in_ok-opened_changes.field-0.items
    (record { ids = ids; pool = c.new.ensures.pools; puts = c.new.ensures.puts; entering = c.new.ensures.entering }) c.new-2.ensures.items fires made in
    rw (c.changing.ensures, c.of.ensures, c.of-2.ensures, c.of-3.ensures, c.get-second.ensures.value)
    (planned-turn (kept_in c.args.seen.now) c.args.admin c.args.at (pools_in c.pools_at.result.now.kept) c.in_ok-opened_changes.field-0.items c.fire_slots.new.turned.openings.entering.items c.fire_slots.new.turned.fired.items
    (omega arith) (ap pools_in c.pools_at.ensures) c.requires.rules turns (λ h s. sym (c.is_running.ensures h s) ∙ c.if-not-is_running.false))
