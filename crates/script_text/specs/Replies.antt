-- The texts of replies and of the report, each ended by LF.
use Rattle.std.specs.Prelude.{ℕ, Bool, true, false, List, [], ◌∷◌, ◌++◌, length, codes, Option, Some, None}
use Rattle.std.specs.List.{flat_map}
use Rattle.job_events.specs.declared.cluster.ClusterReply.{ClusterReply}
use Rattle.job_events.specs.declared.cluster.ClusterReply.TheVariants.{Done, Group, Job, Running, Updated, Halted, Begun, Skip, Look, Fired, Opened as OpenedLogs, Took, Settled, Swept, Marked, Lost, Cleaned, Shown, Stopped, Reopened, Refused}
use Rattle.job_events.specs.declared.cluster.ClusterRefusal.{ClusterRefusal}
use Rattle.job_events.specs.declared.cluster.ClusterRefusal.TheVariants.{NodeRunning, NodeStopped, Busy, NotScanning, Empty, BadCode, AlreadySent, NotTaken, WrongAddress, Repeat, BadRegistry, NothingDone, NoGroup, NoJob, NoLog, BadSchedule, BadZone, NoNext, TooMany, IdsSpent}
use Rattle.job_events.specs.declared.opened.Opened.{Opened}
use Rattle.job_events.specs.declared.order.Order.{Order}
use Rattle.job_values.specs.declared.choice.Choice.{Choice}
use Rattle.job_values.specs.declared.choice.Choice.TheVariants.{To, Beat, Idle, NoAddress}
use Rattle.job_events.specs.declared.opened.FiredTicket.{FiredTicket}
use Rattle.job_events.specs.declared.opened.FiredChild.{FiredChild}
use Rattle.job_events.specs.declared.shown_log.ShownLog.{ShownLog}
use Rattle.job_events.specs.declared.report.Report.{Report}
use Rattle.line_grammar.specs.Writing.{spaced_number, spaced_text, optional_text, counted_texts}
use Rattle.job_values.specs.Words.{block_text, case_text, pool_answer_text, trigger_kind_text}
use Rattle.script_text.specs.Spelling.{spaced_code}

-- a moment or `-`, behind a space
abbrev pub optional_word : Option ℕ → List ℕ
optional_word None = 32 ∷ 45 ∷ []
optional_word (Some t) = spaced_number t

-- `LOG:fast`, `LOG:slow` or `LOG:full`, behind a space
abbrev pub opened_word : Opened → List ℕ
opened_word o = spaced_number o.log ++ 58 ∷ pool_answer_text o.pool

-- the logs that were opened: their count, and each of them
abbrev pub opened_words : List Opened → List ℕ
opened_words os = spaced_number (length os) ++ flat_map opened_word os

-- a ticket that a turn took: job, edition, due time, opened logs
abbrev pub ticket_words : FiredTicket → List ℕ
ticket_words t = spaced_number t.job ++ spaced_number t.edition ++ spaced_number t.due ++ opened_words t.opened

-- a child that a result fired: job, opened logs
abbrev pub child_words : FiredChild → List ℕ
child_words child = spaced_number child.job ++ opened_words child.opened

-- whether a log was looked at as a failed one
abbrev pub mark_text : Bool → List ℕ
mark_text true = codes "marked"
mark_text false = codes "unmarked"

-- which log is shown: the log, its job and group, and the address that it was sent to or `-`
abbrev pub shown_log : ShownLog → List ℕ
shown_log l = spaced_number l.log ++ spaced_number l.job ++ spaced_number l.group ++ 32 ∷ optional_text l.address

-- what it runs: handler, parameter, index of its shard, number of shards
abbrev pub shown_work : ShownLog → List ℕ
shown_work l = spaced_text l.handler ++ spaced_text l.param ++ spaced_number l.index ++ spaced_number l.total

-- how it was opened and sent: retries, why it was opened, when, and the trigger code
abbrev pub shown_trigger : ShownLog → List ℕ
shown_trigger l = spaced_number l.retries ++ 32 ∷ trigger_kind_text l.kind ++ spaced_number l.time ++ spaced_code l.trigger_code

-- its result: when it came or `-`, code, text, and the mark
abbrev pub shown_result : ShownLog → List ℕ
shown_result l = optional_word l.result_time ++ spaced_code l.result_code ++ spaced_text l.result_text ++ 32 ∷ mark_text l.marked

-- what a taken log is to run: the log, its job, handler, parameter
abbrev pub order_work : Order → List ℕ
order_work o = spaced_number o.log ++ spaced_number o.job ++ spaced_text o.handler ++ spaced_text o.param

-- and how: block rule, timeout, the moment of the log, index of its shard, number of shards
abbrev pub order_terms : Order → List ℕ
order_terms o = 32 ∷ block_text o.block ++ spaced_number o.timeout ++ spaced_number o.log_moment ++ spaced_number o.index ++ spaced_number o.total

-- where it may be sent: to an address, to one of a list, or nowhere
abbrev pub choice_words : Choice → List ℕ
choice_words (To address) = codes "to" ++ spaced_text address
choice_words (Beat addresses) = codes "beat " ++ counted_texts addresses
choice_words (Idle addresses) = codes "idle " ++ counted_texts addresses
choice_words NoAddress = codes "none"

-- a refusal's name and its fields
abbrev pub refusal_text : ClusterRefusal → List ℕ
refusal_text (NodeRunning admin) = codes "NodeRunning" ++ spaced_number admin
refusal_text (NodeStopped admin) = codes "NodeStopped" ++ spaced_number admin
refusal_text (Busy owner) = codes "Busy" ++ spaced_number owner
refusal_text NotScanning = codes "NotScanning"
refusal_text Empty = codes "Empty"
refusal_text BadCode = codes "BadCode"
refusal_text (AlreadySent code) = codes "AlreadySent" ++ spaced_code code
refusal_text NotTaken = codes "NotTaken"
refusal_text WrongAddress = codes "WrongAddress"
refusal_text (Repeat code) = codes "Repeat" ++ spaced_code code
refusal_text BadRegistry = codes "BadRegistry"
refusal_text NothingDone = codes "NothingDone"
refusal_text NoGroup = codes "NoGroup"
refusal_text NoJob = codes "NoJob"
refusal_text NoLog = codes "NoLog"
refusal_text (BadSchedule fault) = codes "BadSchedule" ++ spaced_number fault.field ++ spaced_number fault.place
refusal_text (BadZone fault) = codes "BadZone" ++ spaced_number fault.place
refusal_text NoNext = codes "NoNext"
refusal_text (TooMany limit) = codes "TooMany" ++ spaced_number limit
refusal_text IdsSpent = codes "IdsSpent"

-- a reply without its LF
abbrev pub reply_words : ClusterReply → List ℕ
reply_words Done = codes "ok"
reply_words (Group id) = codes "group" ++ spaced_number id
reply_words (Job id) = codes "job" ++ spaced_number id
reply_words (Running edition next) = codes "running" ++ spaced_number edition ++ spaced_number next
reply_words (Updated edition next) = codes "updated" ++ spaced_number edition ++ optional_word next
reply_words (Halted edition) = codes "halted" ++ spaced_number edition
reply_words (Begun count) = codes "begun" ++ spaced_number count
reply_words (Skip job) = codes "skip" ++ spaced_number job
reply_words (Look job case due next put opened) =
    codes "look" ++ spaced_number job ++ 32 ∷ case_text case ++ spaced_number due ++ optional_word next ++ optional_word put ++ opened_words opened
reply_words (Fired tickets) = codes "fired" ++ spaced_number (length tickets) ++ flat_map ticket_words tickets
reply_words (OpenedLogs opened) = codes "opened" ++ opened_words opened
reply_words (Took order) = codes "took" ++ (order_work order ++ order_terms order ++ 32 ∷ choice_words order.choice)
reply_words (Settled code children) = codes "settled" ++ spaced_code code ++ spaced_number (length children) ++ flat_map child_words children
reply_words (Swept count) = codes "swept" ++ spaced_number count
reply_words (Marked log opened) = codes "marked" ++ spaced_number log ++ opened_words opened
reply_words (Lost log) = codes "lost" ++ spaced_number log
reply_words (Cleaned count) = codes "cleaned" ++ spaced_number count
reply_words (Shown l) = codes "log" ++ (shown_log l ++ shown_work l ++ shown_trigger l ++ shown_result l)
reply_words (Stopped lost ended) = codes "stopped" ++ spaced_number lost ++ spaced_number ended
reply_words (Reopened lost ended) = codes "reopened" ++ spaced_number lost ++ spaced_number ended
reply_words (Refused refusal) = codes "no " ++ refusal_text refusal

-- a reply as a line
abbrev pub reply_text : ClusterReply → List ℕ
reply_text reply = reply_words reply ++ 10 ∷ []

-- a report as a line
abbrev pub report_text : Report → List ℕ
report_text r =
    codes "end entries" ++ spaced_number r.entries ++ codes " jobs" ++ spaced_number r.jobs ++ codes " logs" ++ spaced_number r.logs ++ codes " settled" ++ spaced_number r.settled
    ++ codes " failed" ++ spaced_number r.failed ++ codes " waiting" ++ spaced_number r.waiting ++ codes " queued" ++ spaced_number r.queued ++ codes " held" ++ spaced_number r.held ++ 10 ∷ []
