use Rattle.std.proofs.lemmas.Result.{err_from_is_err_and}
use Rattle.http_reading.proofs.TakeLemmas.{head_some, took_both, failed_body}
use Rattle.http_reading.proofs.request.take_request.Goals as goal

pub returns-in_err-body-clause-err : goal.returns-in_err-body-clause-err
returns-in_err-body-clause-err g c =
    let p = err_from_is_err_and c.from_residual-in_err-body.result c.from_residual-in_err-body.ensures.1 in
    rw (p.1, p.2) (failed_body c.args.link.now c.read_head.new.link c.read_body.new.link c.args.bytes.now.items c.read_head.new.bytes.items c.in-Some.head c.in_err-body.field-0.0
    (head_some c.args.link.now c.read_head.new.link c.args.bytes.now.items c.read_head.new.bytes.items c.in_ok-head.field-0 c.in-Some.head c.in-Some.is c.in_ok-head.ensures.ok)
    c.in_err-body.ensures.err)

pub returns-clause-ok : goal.returns-clause-ok
returns-clause-ok g c =
    took_both c.args.link.now c.read_head.new.link c.read_body.new.link c.args.bytes.now.items c.read_head.new.bytes.items c.read_body.new.bytes.items c.drop_front.new.bytes.items c.in-Some.head c.in_ok-body.body
    (head_some c.args.link.now c.read_head.new.link c.args.bytes.now.items c.read_head.new.bytes.items c.in_ok-head.field-0 c.in-Some.head c.in-Some.is c.in_ok-head.ensures.ok)
    c.in_ok-body.ensures.ok c.drop_front.ensures
