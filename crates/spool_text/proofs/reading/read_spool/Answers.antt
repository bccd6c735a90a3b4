use Rattle.std.proofs.Common.{◌<◌, length, sym, ◌∙◌, arith}
use Rattle.std.proofs.lemmas.Bool.Decides.{nat_tests}
use Rattle.std.proofs.lemmas.Result.{err_from_is_err_and}
use Rattle.spool_text.proofs.Progress.{reads_uncut, reads_again, reads_more, reads_fault, was_seen, was_new}
use Rattle.spool_text.proofs.reading.read_spool.Goals as goal

pub returns-in-None-clause-bad : goal.returns-in-None-clause-bad
returns-in-None-clause-bad c =
    let some : 0 < length c.loop-rest.rest.now = grind (arith, nat_tests, c.is_empty.ensures, c.loop-rest-test.true) in
    reads_uncut c.args.bytes.now c.loop-rest.done c.loop-rest.items c.loop-rest.seen.keys c.loop-rest.rest.now c.loop-rest.invariant (sym c.line_end.ensures ∙ c.in-None.is) some

pub returns-in_err-item-in-Some-clause-bad : goal.returns-in_err-item-in-Some-clause-bad
returns-in_err-item-in-Some-clause-bad c =
    let p = err_from_is_err_and c.from_residual.result c.from_residual.ensures.1 in
    let fault = rw c.front.ensures at c.in_err-item-in-Some.ensures.bad in
    rw (p.1, p.2) (reads_fault c.args.bytes.now c.loop-rest.done c.loop-rest.items c.loop-rest.seen.keys c.loop-rest.rest.now c.in-Some.end _ c.loop-rest.invariant (sym c.line_end.ensures ∙ c.in-Some.is) fault)

pub returns-then-not-new-clause-bad : goal.returns-then-not-new-clause-bad
returns-then-not-new-clause-bad c =
    reads_again c.args.bytes.now c.loop-rest.done c.loop-rest.items c.loop-rest.seen.keys c.loop-rest.rest.now c.in-Some.end c.in_ok-item-in-Some.item c.loop-rest.invariant (sym c.line_end.ensures ∙ c.in-Some.is)
    (rw c.front.ensures at c.in_ok-item-in-Some.ensures.item) (was_seen _ _ c.in_ok-new-in-Some.ensures.new c.if-not-new.true)

pub loop-rest-preserved : goal.loop-rest-preserved
loop-rest-preserved c =
    rw (c.in_ok-push-in-Some.ensures.ok, c.behind-rest.ensures)
    (reads_more c.args.bytes.now c.loop-rest.done c.loop-rest.items c.loop-rest.seen.keys c.note.new.seen.keys c.loop-rest.rest.now c.in-Some.end c.in_ok-item-in-Some.item c.loop-rest.invariant (sym c.line_end.ensures ∙ c.in-Some.is)
    (rw c.front.ensures at c.in_ok-item-in-Some.ensures.item) (was_new _ _ c.in_ok-new-in-Some.ensures.new c.if-not-new.false) c.in_ok-new-in-Some.ensures.seen)
