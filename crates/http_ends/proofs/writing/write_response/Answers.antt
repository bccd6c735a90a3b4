use Rattle.std.proofs.Common.{◌≡◌, ◌≢◌, arith}
use Rattle.std.proofs.lemmas.Bool.Decides.{nat_tests}
use Rattle.http_reading.specs.declared.response.Response.{Response}
use Rattle.http_ends.specs.Writing.{bad_request, too_large, response_text}
use Rattle.http_ends.proofs.writing.write_response.Goals as goal

refused : (r : Response) → r.status ≡ 400 → response_text r ≡ bad_request
refused r is = rw is

refused_larger : (r : Response) → r.status ≢ 200 → r.status ≢ 400 → response_text r ≡ too_large
refused_larger r p q = grind (arith, nat_tests)

pub returns-then-response-eq400-clause-err : goal.returns-then-response-eq400-clause-err
returns-then-response-eq400-clause-err g c =
    rw (refused c.args.response.now c.if-response-eq400.true) c.send_text-then-response-eq400.ensures.err

pub returns-clause-ok : goal.returns-clause-ok
returns-clause-ok g c =
    rw (refused_larger c.args.response.now c.if-response-eq200.false c.if-response-eq400.false) c.send_text-2.ensures.ok

pub returns-clause-err : goal.returns-clause-err
returns-clause-err g c =
    rw (refused_larger c.args.response.now c.if-response-eq200.false c.if-response-eq400.false) c.send_text-2.ensures.err
