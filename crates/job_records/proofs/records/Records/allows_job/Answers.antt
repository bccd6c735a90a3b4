use Rattle.std.proofs.Common.{◌≡◌, true, false, sym, ◌∙◌}
use Rattle.std.proofs.lemmas.Result.{IfOk-weaker}
use Rattle.rising_rows.proofs.RowLemmas.{rises-from_rising}
use Rattle.job_records.proofs.AllowLemmas.{both, job_allowed}
use Rattle.job_records.proofs.records.Records.allows_job.Goals as goal

pub job_fits-requires-clause-groups : goal.job_fits-requires-clause-groups
job_fits-requires-clause-groups c = rw c.as_slice.ensures.value (rises-from_rising _ 0 _ _ c.self.invariant.groups.rising)

pub job_fits-requires-clause-jobs : goal.job_fits-requires-clause-jobs
job_fits-requires-clause-jobs c = rw c.as_slice-2.ensures.value (rises-from_rising _ 0 _ _ c.self.invariant.jobs.rising)

pub returns-then-not-job_fits : goal.returns-then-not-job_fits
returns-then-not-job_fits c =
    let fits = rw (c.as_slice.ensures.value, c.as_slice-2.ensures.value) at c.job_fits.ensures.fits in
    rw (← c.self.view_is) (
      λ (t : false ≡ true). absurd (cc),
      λ after.
          let all = (job_allowed _ c.args.job.now c.self.invariant c.job_fits.ensures.least).1 after in
          sym c.if-not-job_fits.true ∙ fits.1 (all.0, all.1, all.2, all.3, all.4),
    )

pub returns : goal.returns
returns c =
    let fits = (rw (c.as_slice.ensures.value, c.as_slice-2.ensures.value) at c.job_fits.ensures.fits).0 c.if-not-job_fits.false in
    let allowed = job_allowed _ c.args.job.now c.self.invariant c.job_fits.ensures.least in
    rw (← c.self.view_is)
    (IfOk-weaker c.has_its_schedule.result _ _ (λ same is. both is (λ says. allowed.0 (fits.0, fits.1, fits.2, fits.3, fits.4, says), λ after. (allowed.1 after).5)) c.has_its_schedule.ensures)
