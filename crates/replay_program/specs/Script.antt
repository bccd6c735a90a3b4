-- Scripts of events, and what each line of one means.
use Rattle.std.specs.Prelude.{ℕ, List, length}
use Rattle.job_events.specs.declared.report.Report.{Report}
use Rattle.job_events.specs.declared.cluster.ClusterEvent.{ClusterEvent}
use Rattle.cluster_history.specs.declared.settings.Settings.{Settings}
use Rattle.cluster_history.specs.History.{History, Begin, empty_opening}
use Rattle.cluster_history.specs.Replies.{reply_of}
use Rattle.cluster_history.specs.Runs.{run, report_of}
use Rattle.cluster_core.specs.Stands.{StandsFor}
use Rattle.script_text.specs.Lines.{IsLine}
use Rattle.script_text.specs.Faults.{IsColumn}
use Rattle.script_text.specs.Replies.{reply_text, report_text}
use Rattle.line_program.specs.Meaning.{Meaning, Play}
use Rattle.replay_program.specs.declared.machine.Machine.{Machine}

-- the history before the first event
abbrev pub opening : Settings → History
opening settings = Begin (empty_opening settings)

-- the line of the reply to an event behind those before it
abbrev pub answer : Settings → List ClusterEvent → ClusterEvent → List ℕ
answer settings events event = reply_text (reply_of (run (opening settings) events) event)

-- the report of a run, with the number of its lines
abbrev pub report_with : ℕ → Report → Report
report_with lines counts = record counts { entries = lines }

-- the line of the report behind the replies
abbrev pub report_line : Settings → List ClusterEvent → List ℕ
report_line settings events = report_text (report_with (length events) (report_of (run (opening settings) events)))

-- what the lines of a script mean under these settings
abbrev pub script : Settings → Meaning ClusterEvent
script settings = record { is_line = IsLine; stops = IsColumn; answer = answer settings; report = report_line settings }

-- the machine that plays them stands for the history of the events that it took
abbrev pub script_play : Play Machine ClusterEvent Settings
script_play = record { meaning = script; stands = λ settings machine events. StandsFor machine.cluster (run (opening settings) events) }
