use Rattle.std.proofs.Common.{◌≡◌, take}
use Rattle.job_values.proofs.bounded.copy_addresses.Given as goal

abbrev pub invariant-loop-address : goal.invariant-loop-address
invariant-loop-address l = l.copies.items ≡ take l.address-index l.address-items
