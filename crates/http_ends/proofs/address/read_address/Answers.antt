use Rattle.std.proofs.Common.{◌∙◌, sym, ap}
use Rattle.std.proofs.lemmas.Bool.{false≢true}
use Rattle.std.specs.List.{list_all}
use Rattle.http_ends.specs.Addresses.{is_host_byte}
use Rattle.http_ends.proofs.AddressLemmas.{divided_is, not_empty}
use Rattle.http_ends.proofs.address.read_address.Goals as goal
use Rattle.http_ends.proofs.address.read_address.Goals.{then-is_empty-via-then-is_empty, then-is_empty-via-else-is_empty+then-not-is_host, then-is_empty-via-else-is_empty+else-not-is_host+then-not-is_graphic}

pub returns-in_err-port-clause-none : goal.returns-in_err-port-clause-none
returns-in_err-port-clause-none c = rw c.from_residual-in_err-port.ensures (λ address is.
    let same = divided_is c.args.text.now _ _ _ address c.in_ok-host.ensures.found is in
    c.in_err-port.ensures.none address.port is.least is.most same.digits_are)

pub returns-then-is_empty-clause-none : goal.returns-then-is_empty-clause-none
returns-then-is_empty-clause-none c = λ address is.
    let same = divided_is c.args.text.now _ _ _ address c.in_ok-host.ensures.found is in
    elim c.then-is_empty.branch [
      | then-is_empty-via-then-is_empty w ↦ not_empty _ address same.host_is is.some (sym w.if-is_empty.ensures)
      | then-is_empty-via-else-is_empty+then-not-is_host w ↦ false≢true (w.if-not-is_host.ensures ∙ ap (list_all is_host_byte) same.host_is ∙ is.host)
      | then-is_empty-via-else-is_empty+else-not-is_host+then-not-is_graphic w ↦ false≢true (w.if-not-is_graphic.ensures ∙ same.graphic)
    ]
