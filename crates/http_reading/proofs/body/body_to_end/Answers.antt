use Rattle.std.proofs.Common.{drop, ◌||◌}
use Rattle.std.proofs.lemmas.Result.{err_from_is_err_and}
use Rattle.http_reading.specs.BodyReads.{Behind}
use Rattle.http_reading.specs.declared.plan.BodyPlan.TheVariants.{ToEnd}
use Rattle.http_reading.proofs.DrawLemmas.{fails_after}
use Rattle.http_reading.proofs.OuterLemmas.{outer_body}
use Rattle.http_reading.proofs.body.body_to_end.Goals as goal

pub returns-in_err-ended-clause-err : goal.returns-in_err-ended-clause-err
returns-in_err-ended-clause-err g c =
    let p = err_from_is_err_and c.from_residual.result c.from_residual.ensures.1 in
    rw (p.1, p.2) (fails_after (Behind ToEnd c.args.start) c.loop-ended.invariant.0 c.in_err-ended.ensures.err
    (λ holds f is. outer_body ToEnd c.args.start (drop c.args.start holds) (c.loop-ended.ended || f) c.in_err-ended.field-0.0 is))
