-- The limits of the scheduler, as numbers.
use Rattle.std.specs.Prelude.{◌≡◌, ◌^◌, ◌-◌, pos}
use Rattle.job_values.specs.declared.limits.TheConstants.{LOOK_AHEAD, MISFIRE_WINDOW, JOBS_PER_THREAD, ADMINS, LAST_ADMIN, SLOTS, SECOND, MINUTE, FAST_LIMIT, SLOW_LIMIT, SLOW_ABOVE, LATE_ABOVE, DEAD_AFTER, LOST_AFTER, LAST_MOMENT, LAST_EDITION, LAST_JOB_ID, LAST_LOG_ID, MOST_GROUPS, MOST_JOBS, MOST_REGISTRATIONS, MOST_OF_KEY, SUCCESS, FAILURE}

-- each as its number
pub record TheNumbers : Type 0 where
  -- milliseconds
  pub look_ahead : LOOK_AHEAD ≡ 5000
  pub misfire_window : MISFIRE_WINDOW ≡ 5000
  pub second : SECOND ≡ 1000
  pub minute : MINUTE ≡ 60000
  pub late_above : LATE_ABOVE ≡ 500
  pub dead_after : DEAD_AFTER ≡ 90000
  pub lost_after : LOST_AFTER ≡ 600000
  pub last_moment : LAST_MOMENT ≡ 4102444799999
  -- how many
  pub jobs_per_thread : JOBS_PER_THREAD ≡ 20
  pub admins : ADMINS ≡ 64
  pub last_admin : LAST_ADMIN ≡ 63
  pub slots : SLOTS ≡ 60
  pub fast_limit : FAST_LIMIT ≡ 1000
  pub slow_limit : SLOW_LIMIT ≡ 2000
  pub slow_above : SLOW_ABOVE ≡ 10
  pub most_groups : MOST_GROUPS ≡ 10000
  pub most_jobs : MOST_JOBS ≡ 100000
  pub most_registrations : MOST_REGISTRATIONS ≡ 65536
  pub most_of_key : MOST_OF_KEY ≡ 256
  -- the greatest numbers
  pub last_job_id : LAST_JOB_ID ≡ 2 ^ 31 - 1
  pub last_log_id : LAST_LOG_ID ≡ 2 ^ 63 - 1
  pub last_edition : LAST_EDITION ≡ 2 ^ 64 - 1
  -- codes
  pub success : SUCCESS ≡ pos 200
  pub failure : FAILURE ≡ pos 500
