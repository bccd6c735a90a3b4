use Rattle.std.proofs.Common.{drop, arith, ap, length, length-drop}
use Rattle.std.proofs.lemmas.Result.{err_from_is_err_and}
use Rattle.http_reading.specs.BodyReads.{Behind}
use Rattle.http_reading.specs.declared.plan.BodyPlan.TheVariants.{Sized}
use Rattle.http_reading.specs.declared.fault.HttpFault.TheVariants.{Ended}
use Rattle.http_reading.proofs.DrawLemmas.{draws_more, fails_here, fails_after}
use Rattle.http_reading.proofs.BodyLemmas.{part_is}
use Rattle.http_reading.proofs.OuterLemmas.{outer_body}
use Rattle.http_reading.proofs.body.sized_body.Goals as goal

pub returns-in_err-fill-clause-err : goal.returns-in_err-fill-clause-err
returns-in_err-fill-clause-err g c =
    let p = err_from_is_err_and c.from_residual.result c.from_residual.ensures.1 in
    rw (p.1, p.2) (fails_after (Behind (Sized c.args.count) c.args.start) c.loop-link.invariant.0 c.in_err-fill.ensures.err
    (λ holds f is. outer_body (Sized c.args.count) c.args.start (drop c.args.start holds) _ _ is))

pub returns-then-branch-clause-err : goal.returns-then-branch-clause-err
returns-then-branch-clause-err g c =
    let came = c.in_ok-fill.ensures.ok in
    let same = ap length (c.in_ok-fill.ensures.same c.if-branch.true) in
    let behind = length-drop c.args.start c.fill.new.bytes.items in
    fails_here (Behind (Sized c.args.count) c.args.start) (Ended c.len-then-branch.result) (draws_more c.loop-link.invariant.0 came.draws)
    (λ e. let never : ⊥ = cc in never)
    (c.if-branch.true, omega arith, omega arith)

pub returns-clause-ok : goal.returns-clause-ok
returns-clause-ok g c = record {
  draws = c.loop-link.invariant.0;
  inside = omega arith;
  is = part_is c.loop-link.bytes.items c.deref.result.now c.in_ok-body.body c.args.start c.args.count (omega arith) (omega arith) c.deref.ensures.value c.in_ok-body.ensures.ok;
}
