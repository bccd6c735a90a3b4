use Rattle.std.proofs.Common.{arith, inr, ◌∙◌}
use Rattle.std.proofs.lemmas.Result.{err_from_is_err_and}
use Rattle.api_messages.proofs.Items.{not_objects, too_long, objects}
use Rattle.api_messages.proofs.callbacks.results_of.Goals as goal

pub returns-then-not-all_objects : goal.returns-then-not-all_objects
returns-then-not-all_objects c = inr (not_objects c.args.values.now c.all_objects.result c.all_objects.ensures c.if-not-all_objects.true)

pub returns-then-values-gt-BATCH_ITEMS : goal.returns-then-values-gt-BATCH_ITEMS
returns-then-values-gt-BATCH_ITEMS c = inr (too_long c.args.values.now c.all_objects.result c.all_objects.ensures c.if-not-all_objects.false (omega arith))

pub returns-in_err-items : goal.returns-in_err-items
returns-in_err-items c =
    let p = err_from_is_err_and c.from_residual.result c.from_residual.ensures.1 in
    rw (p.1, p.2) (rw (objects c.args.values.now c.all_objects.result c.all_objects.ensures c.if-not-all_objects.false (omega arith)) c.in_err-items.ensures)

pub returns : goal.returns
returns c =
    rw c.of.ensures (objects c.args.values.now c.all_objects.result c.all_objects.ensures c.if-not-all_objects.false (omega arith) ∙ c.in_ok-items.ensures)
