use Rattle.job_records.proofs.AllowLemmas.{both, log_allowed}
use Rattle.job_records.proofs.records.Records.allows_log.Goals as goal

pub returns : goal.returns
returns c = rw (← c.self.view_is) (both c.log_fits.ensures.fits (log_allowed _ c.args.log.now c.self.invariant c.log_fits.ensures.least))
