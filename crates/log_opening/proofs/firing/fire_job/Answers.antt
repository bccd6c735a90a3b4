use Rattle.std.proofs.Common.{◌≡◌, ◌∙◌, ap, subst, arith}
use Rattle.job_records.specs.declared.last_ids.LastIds.{LastIds}
use Rattle.cluster_history.specs.Firings.{shots_with, shots_by}
use Rattle.cluster_plan.specs.Kept.{pools_in}
use Rattle.log_opening.specs.Firing.{Fires}
use Rattle.log_opening.specs.Openings.{OpensBehind, told_of}
use Rattle.log_opening.proofs.FireLemmas.{count-shots, fires-opened}
use Rattle.log_opening.proofs.firing.fire_job.Goals as goal

pub returns-then-last-total-gt-LAST_LOG_ID : goal.returns-then-last-total-gt-LAST_LOG_ID
returns-then-last-total-gt-LAST_LOG_ID c =
    let log : c.last_ids-last.result.log ≡ c.args.records.now.kept.last.log = ap (λ (l : LastIds). l.log) c.last_ids-last.ensures.value in
    omega (arith, log, c.shard_count-total.ensures.count, count-shots c.args.records.now.kept.groups c.args.param.now c.args.kind c.args.at c.args.row.now)

pub returns : goal.returns
returns c =
    let shots : shots_by c.args.row.now c.args.param.now c.args.kind c.args.at c.shard_count-total.result ≡ shots_with c.args.records.now.kept.groups c.args.param.now c.args.kind c.args.at c.args.row.now =
    ap (λ n. shots_by c.args.row.now c.args.param.now c.args.kind c.args.at n) c.shard_count-total.ensures.count in
    let opens = subst (λ ss. OpensBehind ss c.new-openings.result c.open_logs.new.openings) shots c.in_ok-opened.ensures.opens in
    let P : LastIds → Type 0 = λ l. Fires l (pools_in c.args.pools.now.kept) (shots_with c.args.records.now.kept.groups c.args.param.now c.args.kind c.args.at c.args.row.now) c.in_ok-fired.fired in
    subst P c.last_ids-last.ensures.value
    (fires-opened c.last_ids-last.result (pools_in c.args.pools.now.kept) (shots_with c.args.records.now.kept.groups c.args.param.now c.args.kind c.args.at c.args.row.now) c.new-openings.result c.open_logs.new.openings c.in_ok-fired.fired
    c.new-openings.ensures.last c.new-openings.ensures.pools c.new-openings.ensures.puts c.new-openings.ensures.entering opens c.in_ok-fired.ensures.changes c.in_ok-fired.ensures.entering
    (c.in_ok-fired.ensures.opened ∙ c.in_ok-opened.ensures.opened ∙ ap (λ ss. told_of ss c.new-openings.result) shots))
