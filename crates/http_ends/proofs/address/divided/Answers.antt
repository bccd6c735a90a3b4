use Rattle.std.proofs.Common.{subst}
use Rattle.http_ends.specs.Addresses.{LacksByte}
use Rattle.http_ends.proofs.AddressLemmas.{same_behind_scheme, lacks_none}
use Rattle.http_ends.proofs.address.divided.Goals as goal

pub returns-in_err-host-clause-none : goal.returns-in_err-host-clause-none
returns-in_err-host-clause-none c = rw c.from_residual-in_err-host.ensures (λ host rest is.
    lacks_none 58 host rest (subst (LacksByte 58) (same_behind_scheme c.args.text.now _ _ c.in_ok-rest.ensures.found is) c.in_err-host.ensures.none))
