use Rattle.std.proofs.Common.{refl}
use Rattle.cluster_history.proofs.laws.law_numbers.Goals as goal

pub returns : goal.returns
returns c = record {
  look_ahead = refl;
  misfire_window = refl;
  second = refl;
  minute = refl;
  late_above = refl;
  dead_after = refl;
  lost_after = refl;
  last_moment = refl;
  jobs_per_thread = refl;
  admins = refl;
  last_admin = refl;
  slots = refl;
  fast_limit = refl;
  slow_limit = refl;
  slow_above = refl;
  most_groups = refl;
  most_jobs = refl;
  most_registrations = refl;
  most_of_key = refl;
  last_job_id = refl;
  last_log_id = refl;
  last_edition = refl;
  success = refl;
  failure = refl;
}
