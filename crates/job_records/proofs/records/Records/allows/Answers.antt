use Rattle.std.proofs.Common.{refl}
use Rattle.job_records.proofs.Keeping.{keeps_drop_job, keeps_drop_log, keeps_drop_registration}
use Rattle.job_records.proofs.records.Records.allows.Goals as goal

pub returns-in-DropJob : goal.returns-in-DropJob
returns-in-DropJob c = rw (← c.self.view_is, c.in-DropJob.is) (λ _. keeps_drop_job _ _ c.self.invariant, λ _. refl)

pub returns-in-DropLog : goal.returns-in-DropLog
returns-in-DropLog c = rw (← c.self.view_is, c.in-DropLog.is) (λ _. keeps_drop_log _ _ c.self.invariant, λ _. refl)

pub returns-in-DropRegistry : goal.returns-in-DropRegistry
returns-in-DropRegistry c = rw (← c.self.view_is, c.in-DropRegistry.is) (λ _. keeps_drop_registration _ _ _ c.self.invariant, λ _. refl)
