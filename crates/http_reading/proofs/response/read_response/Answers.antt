use Rattle.std.proofs.lemmas.Result.{err_from_is_err_and}
use Rattle.http_reading.proofs.AnswerLemmas.{hears_answer, hears_fault, failed_behind}
use Rattle.http_reading.proofs.response.read_response.Goals as goal

pub returns-in_err-body-clause-fault : goal.returns-in_err-body-clause-fault
returns-in_err-body-clause-fault g c =
    let p = err_from_is_err_and c.from_residual-in_err-body.result c.from_residual-in_err-body.ensures.1 in
    rw (p.1, p.2) (hears_fault c.args.link.now c.read_body.new.link c.in_err-body.field-0.0
    (failed_behind c.args.link.now c.read_top.new.link c.read_body.new.link _ c.read_top.new.bytes.items c.in_ok-top.top c.in_err-body.field-0.0
    (rw c.new-bytes.ensures.items at c.in_ok-top.ensures.ok) c.in_err-body.ensures.err))

pub returns-clause-response : goal.returns-clause-response
returns-clause-response g c =
    hears_answer c.args.link.now c.read_top.new.link c.read_body.new.link c.read_top.new.bytes.items c.read_body.new.bytes.items c.in_ok-top.top c.in_ok-body.body
    (rw c.new-bytes.ensures.items at c.in_ok-top.ensures.ok) c.in_ok-body.ensures.ok
