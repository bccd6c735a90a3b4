use Rattle.std.proofs.Common.{◌≡◌, ◌∙◌, sym, ap, subst, arith}
use Rattle.cluster_history.specs.Firings.{shots_by, shots_if}
use Rattle.cluster_history.specs.Looks.{job_with}
use Rattle.log_opening.specs.Openings.{OpensBehind, told_of}
use Rattle.log_opening.proofs.SeriesLemmas.{shots-found, shots-many}
use Rattle.log_opening.proofs.series.open_job.Goals as goal

pub returns-then-openings-total-gt-LAST_LOG_ID : goal.returns-then-openings-total-gt-LAST_LOG_ID
returns-then-openings-total-gt-LAST_LOG_ID c =
    let many = shots-many c.args.records.now.kept c.args.kind c.args.at c.shard_count-total.result c.args.job c.in-Some.row.now (sym c.in-Some.ensures) c.shard_count-total.ensures.count in
    omega arith

pub returns : goal.returns
returns c =
    let shots : shots_by c.in-Some.row.now c.in-Some.row.now.spec.param c.args.kind c.args.at c.shard_count-total.result ≡ shots_if c.args.records.now.kept.groups c.args.kind c.args.at (job_with c.args.job c.args.records.now.kept.jobs) =
    sym (shots-found c.args.records.now.kept c.args.kind c.args.at c.shard_count-total.result c.args.job c.in-Some.row.now (sym c.in-Some.ensures) c.shard_count-total.ensures.count) in (
      subst (λ ss. OpensBehind ss c.args.openings.now c.open_logs.new.openings) shots c.in_ok-opened.ensures.opens,
      c.in_ok-opened.ensures.opened ∙ ap (λ ss. told_of ss c.args.openings.now) shots,
    )
