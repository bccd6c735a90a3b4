-- The limits as numbers.
use Rattle.std.specs.Prelude.{◌≡◌, pos}
use Rattle.job_values.specs.declared.limits.TheConstants.{LAST_MOMENT, LAST_JOB_ID, LAST_LOG_ID, LAST_EDITION, ADMINS, LAST_ADMIN, EXECUTORS, LAST_RUNNER, LAST_OFFSET, LAST_SECONDS, LAST_RETRIES, LAST_SHARD, LAST_LOG_MOMENT, LAST_REQUEST, LAST_LINE, MOST_GROUPS, MOST_JOBS, MOST_REGISTRATIONS, MOST_OF_KEY, MOST_ADDRESSES, MOST_CHILDREN, MOST_HANDLERS, LONGEST_APP, LONGEST_NAME, LONGEST_PARAM, LONGEST_RUN_PARAM, LONGEST_RUN_WORD, LONGEST_SCHEDULE_GIVEN, LONGEST_SCHEDULE, LONGEST_RESULT, LONGEST_LOG_LINE, LONGEST_BODY, LOOK_AHEAD, MISFIRE_WINDOW, JOBS_PER_THREAD, SLOTS, SECOND, MINUTE, FAST_LIMIT, SLOW_LIMIT, SLOW_ABOVE, LATE_ABOVE, DEAD_AFTER, LOST_AFTER, SUCCESS, FAILURE, EXPIRED, BATCH_ITEMS, BATCH_BYTES, HELD_IDS, LOG_LINES, LINES_READ}

-- each limit is this number
pub record AreTheLimits : Type 0 where
  pub last_moment : LAST_MOMENT ≡ 4102444799999
  pub last_job_id : LAST_JOB_ID ≡ 2147483647
  pub last_log_id : LAST_LOG_ID ≡ 9223372036854775807
  pub last_edition : LAST_EDITION ≡ 18446744073709551615
  pub admins : ADMINS ≡ 64
  pub last_admin : LAST_ADMIN ≡ 63
  pub executors : EXECUTORS ≡ 64
  pub last_runner : LAST_RUNNER ≡ 63
  pub last_offset : LAST_OFFSET ≡ pos 64800
  pub last_seconds : LAST_SECONDS ≡ 2147483647
  pub last_retries : LAST_RETRIES ≡ 100
  pub last_shard : LAST_SHARD ≡ 2147483647
  pub last_log_moment : LAST_LOG_MOMENT ≡ 9223372036854775807
  pub last_request : LAST_REQUEST ≡ 9223372036854775807
  pub last_line : LAST_LINE ≡ 2147483647
  pub most_groups : MOST_GROUPS ≡ 10000
  pub most_jobs : MOST_JOBS ≡ 100000
  pub most_registrations : MOST_REGISTRATIONS ≡ 65536
  pub most_of_key : MOST_OF_KEY ≡ 256
  pub most_addresses : MOST_ADDRESSES ≡ 256
  pub most_children : MOST_CHILDREN ≡ 64
  pub most_handlers : MOST_HANDLERS ≡ 64
  pub longest_app : LONGEST_APP ≡ 64
  pub longest_name : LONGEST_NAME ≡ 255
  pub longest_param : LONGEST_PARAM ≡ 512
  pub longest_run_param : LONGEST_RUN_PARAM ≡ 65536
  pub longest_run_word : LONGEST_RUN_WORD ≡ 64
  pub longest_schedule_given : LONGEST_SCHEDULE_GIVEN ≡ 1024
  pub longest_schedule : LONGEST_SCHEDULE ≡ 128
  pub longest_result : LONGEST_RESULT ≡ 15000
  pub longest_log_line : LONGEST_LOG_LINE ≡ 1024
  pub longest_body : LONGEST_BODY ≡ 1048576
  pub look_ahead : LOOK_AHEAD ≡ 5000
  pub misfire_window : MISFIRE_WINDOW ≡ 5000
  pub jobs_per_thread : JOBS_PER_THREAD ≡ 20
  pub slots : SLOTS ≡ 60
  pub second : SECOND ≡ 1000
  pub minute : MINUTE ≡ 60000
  pub fast_limit : FAST_LIMIT ≡ 1000
  pub slow_limit : SLOW_LIMIT ≡ 2000
  pub slow_above : SLOW_ABOVE ≡ 10
  pub late_above : LATE_ABOVE ≡ 500
  pub dead_after : DEAD_AFTER ≡ 90000
  pub lost_after : LOST_AFTER ≡ 600000
  pub success : SUCCESS ≡ pos 200
  pub failure : FAILURE ≡ pos 500
  pub expired : EXPIRED ≡ pos 502
  pub batch_items : BATCH_ITEMS ≡ 1000
  pub batch_bytes : BATCH_BYTES ≡ 131072
  pub held_ids : HELD_IDS ≡ 10000
  pub log_lines : LOG_LINES ≡ 10000
  pub lines_read : LINES_READ ≡ 100
