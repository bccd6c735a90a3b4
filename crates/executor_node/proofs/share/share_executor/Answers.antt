use Rattle.std.proofs.Common.{◌≡◌, IfOk, ap, ◌∙◌, subst}
use Rattle.turn_lock.specs.Seats.{first_seat}
use Rattle.executor_node.specs.declared.machine.ExecutorOpening.{ExecutorOpening}
use Rattle.executor_node.specs.Standing.{opening_of}
use Rattle.executor_node.proofs.share.share_executor.Goals as goal

-- src/share.rt:13:1
pub returns : goal.returns
returns c =
    let same : opening_of c.of.result ≡ record { handlers = c.args.handlers; kept = c.args.kept } = ap opening_of (c.of.ensures ∙ c.in_ok-executor.ensures) in
    subst (λ (o : ExecutorOpening). IfOk c.new-2.result (λ r. r.1 ≡ first_seat r.0 o)) same c.new-2.ensures
