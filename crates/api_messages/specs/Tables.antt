-- The members of each message, in byte order of their names.
use Rattle.std.specs.Prelude.{pos, negsuc, List, [], ◌∷◌, ◌++◌, codes}
use Rattle.job_values.specs.declared.limits.TheConstants.{LAST_JOB_ID, LAST_LOG_ID, LAST_SECONDS, LAST_SHARD, LAST_LINE, LAST_LOG_MOMENT, LONGEST_NAME, LONGEST_RUN_PARAM, LONGEST_RUN_WORD, LONGEST_RESULT}
use Rattle.api_messages.specs.Members.{none, int, text, Kind, whole, not_negative, text_within, any_text, cut_text, truth, any_value, Row, required, optional}

-- the numbers of 32 bits with a sign
abbrev pub signed : Kind
signed = whole (negsuc 2147483647) (pos 2147483647)

-- the indices of shards and how many there are, and the ids of jobs and of logs
abbrev pub count : Kind
count = whole (pos 0) (pos LAST_SHARD)

abbrev pub job_number : Kind
job_number = whole (pos 1) (pos LAST_JOB_ID)

abbrev pub log_number : Kind
log_number = whole (pos 1) (pos LAST_LOG_ID)

-- timeouts and the numbers of lines, from the least number of 32 bits with a sign on, a negative one read as 0
abbrev pub seconds : Kind
seconds = not_negative (negsuc 2147483647) (pos LAST_SECONDS)

abbrev pub line_number : Kind
line_number = not_negative (negsuc 2147483647) (pos LAST_LINE)

-- moments, and those of logs, from the least number of 64 bits with a sign on, a negative one read as 0
abbrev pub milliseconds : Kind
milliseconds = not_negative (negsuc 9223372036854775807) (pos 9223372036854775807)

abbrev pub log_moment : Kind
log_moment = not_negative (negsuc 9223372036854775807) (pos LAST_LOG_MOMENT)

abbrev pub run_rows : List Row
run_rows =
    optional (codes "broadcastIndex") count (int (pos 0))
    ∷ optional (codes "broadcastTotal") count (int (pos 1))
    ∷ optional (codes "executorBlockStrategy") (text_within LONGEST_RUN_WORD) (text (codes "SERIAL_EXECUTION"))
    ∷ optional (codes "executorHandler") (text_within LONGEST_NAME) (text [])
    ∷ optional (codes "executorParams") (text_within LONGEST_RUN_PARAM) (text [])
    ∷ optional (codes "executorTimeout") seconds (int (pos 0))
    ∷ optional (codes "glueSource") any_text (text [])
    ∷ optional (codes "glueType") (text_within LONGEST_RUN_WORD) (text (codes "BEAN"))
    ∷ optional (codes "glueUpdatetime") milliseconds (int (pos 0))
    ∷ required (codes "jobId") job_number
    ∷ optional (codes "logDateTime") log_moment (int (pos 0))
    ∷ required (codes "logId") log_number
    ∷ []

-- of idleBeat and of kill
abbrev pub job_rows : List Row
job_rows = required (codes "jobId") job_number ∷ []

abbrev pub log_rows : List Row
log_rows =
    optional (codes "fromLineNum") line_number (int (pos 1))
    ∷ optional (codes "logDateTim") log_moment (int (pos 0))
    ∷ required (codes "logId") log_number
    ∷ []

abbrev pub log_answer_rows : List Row
log_answer_rows =
    required (codes "fromLineNum") signed
    ∷ required (codes "isEnd") truth
    ∷ optional (codes "logContent") any_text (text [])
    ∷ required (codes "toLineNum") signed
    ∷ []

-- of each item of a callback: its code and its text, and then which log it is of
abbrev pub told_rows : List Row
told_rows =
    required (codes "handleCode") signed
    ∷ optional (codes "handleMsg") (cut_text LONGEST_RESULT) (text [])
    ∷ []

abbrev pub place_rows : List Row
place_rows =
    optional (codes "logDateTim") log_moment (int (pos 0))
    ∷ required (codes "logId") log_number
    ∷ []

abbrev pub item_rows : List Row
item_rows = told_rows ++ place_rows

-- of executeResult, where an item of the older form has its code and its text
abbrev pub result_rows : List Row
result_rows =
    required (codes "code") signed
    ∷ optional (codes "msg") (cut_text LONGEST_RESULT) (text [])
    ∷ []

-- of registry and of registryRemove
abbrev pub registry_rows : List Row
registry_rows =
    optional (codes "registryGroup") (text_within LONGEST_NAME) (text [])
    ∷ optional (codes "registryKey") (text_within LONGEST_NAME) (text [])
    ∷ optional (codes "registryValue") (text_within LONGEST_NAME) (text [])
    ∷ []

abbrev pub return_rows : List Row
return_rows =
    required (codes "code") signed
    ∷ optional (codes "content") any_value none
    ∷ optional (codes "msg") any_text none
    ∷ []

abbrev pub manage_rows : List Row
manage_rows = required (codes "line") any_text ∷ []
