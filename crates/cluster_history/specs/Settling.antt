-- What becomes of the rows of logs, and of the jobs that they name.
pub use Rattle.settle_log.specs.Settling.{log_with, log_changed, is_unsent, sent_log, ended_log, ended_where, settled_log, is_settled, is_failed, is_unmarked, first_failed, marked_log, logs_marked, is_lost, first_lost, lost_text, logs_lost, is_old, logs_left}
pub use Rattle.settle_log.specs.Results.{is_positive, children_in, children_of}
