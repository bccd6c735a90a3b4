use Rattle.std.proofs.Common.{◌≡◌, ◌∙◌, decimal, ap, sym, arith}
use Rattle.std.specs.Cmp.Lexicographic.{other_text}
use Rattle.http_ends.proofs.PortLemmas.{port_read, port_unread}
use Rattle.http_ends.proofs.address.port_of.Goals as goal
use Rattle.http_ends.proofs.address.port_of.Goals.{else-port-gt0-via-then-port-gt0+else-eq, else-port-gt0-via-else-port-gt0}

pub returns-else-port-gt0-clause-none : goal.returns-else-port-gt0-clause-none
returns-else-port-gt0-clause-none c = λ n least most is.
    let same : c.in-Ok.port ≡ n = port_read c.args.digits.now c.parse.result c.in-Ok.port n c.in-Ok.is c.parse.ensures.value.0 most is in
    elim c.else-port-gt0.branch [
      | else-port-gt0-via-then-port-gt0+else-eq w ↦ other_text _ _ w.if-eq.ensures (w.format.ensures.text ∙ ap decimal same ∙ sym is)
      | else-port-gt0-via-else-port-gt0 w ↦ absurd (omega arith)
    ]

pub returns-in-Err-clause-none : goal.returns-in-Err-clause-none
returns-in-Err-clause-none c = λ n least most is. port_unread c.args.digits.now c.parse.result _ n c.in-Err.is c.parse.ensures.value.0 most is
