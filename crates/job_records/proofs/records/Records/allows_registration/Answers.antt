use Rattle.job_records.proofs.AllowLemmas.{both, registration_allowed}
use Rattle.job_records.proofs.records.Records.allows_registration.Goals as goal

pub registration_fits-requires : goal.registration_fits-requires
registration_fits-requires c = rw c.as_slice.ensures.value c.self.invariant.registry.rising

pub returns : goal.returns
returns c = rw (← c.self.view_is) (both (rw c.as_slice.ensures.value at c.registration_fits.ensures) (registration_allowed _ c.args.row.now c.self.invariant))
