-- The next times of a schedule: the words that ask for them, and what is told.
use Rattle.std.specs.Prelude.{ℕ, ◌≡◌, ◌⊎◌, ℤ, List, [], ◌∷◌, codes, Option, Some, None, MatchOption, Result, Ok, Err, if◌then◌else◌}
use Rattle.std.specs.Str.{bytes_eq}
use Rattle.std.specs.Io.KnownBytes.{Appends}
use Rattle.job_values.specs.declared.limits.TheConstants.{LAST_MOMENT}
use Rattle.job_values.specs.declared.words.ScheduleKind.{ScheduleKind}
use Rattle.job_values.specs.declared.words.ScheduleKind.TheVariants.{Never, Cron, FixRate}
use Rattle.job_values.specs.declared.fault.ScheduleFault.{ScheduleFault}
use Rattle.job_values.specs.declared.fault.ZoneFault.{ZoneFault}
use Rattle.zone_texts.specs.declared.zone.Zone.{Zone}
use Rattle.zone_texts.specs.Parsed.{zone_parsed}
use Rattle.cron_schedule.specs.declared.plan.Plan.{Plan}
use Rattle.cron_schedule.specs.Parse.{parsed}
use Rattle.outside.specs.Causes.{Rose}
use Rattle.outside.specs.Streams.{AppendsFront}
use Rattle.replay_program.specs.Times.{times_text, fault_text, zone_fault_text}
use Rattle.replay_program.specs.Words.{offset_said, number_within, settings_said}
use Rattle.line_program.specs.Ports.{Ports}
use Rattle.line_program.specs.Outcome.{RunEnds}
use Rattle.replay_program.specs.Outcome.{WordsEnd}
use Rattle.replay_program.specs.Script.{script}
use Rattle.replay_program.specs.declared.limits.TheConstants.{MOST_TIMES}
use Rattle.replay_program.specs.declared.next.Ask.{Ask}
use Rattle.line_program.specs.declared.status.Status.{Status}
use Rattle.line_program.specs.declared.status.Status.TheVariants as status

-- the schedule kind of a word
abbrev pub kind_said : List ℕ → Option ScheduleKind
kind_said word =
    if bytes_eq word (codes "NONE") then Some Never
    else (if bytes_eq word (codes "CRON") then Some Cron
    else (if bytes_eq word (codes "FIX_RATE") then Some FixRate
    else None))

abbrev pub ask_from : Option ScheduleKind → List ℕ → Option ℤ → Option ℕ → Option ℕ → List ℕ → Option Ask
ask_from (Some kind) text (Some offset) (Some at) (Some count) zone =
    Some (record { kind = kind; text = text; offset = offset; from = at; count = count; zone = zone })
ask_from _ text _ _ _ zone = None

-- what the words `next KIND TEXT OFFSET MOMENT COUNT` and `next KIND TEXT OFFSET MOMENT COUNT ZONE` ask for; none where they are other words
abbrev pub next_said : List (List ℕ) → Option Ask
next_said (word ∷ kind ∷ text ∷ offset ∷ at ∷ count ∷ []) =
    if bytes_eq word (codes "next")
    then ask_from (kind_said kind) text (offset_said offset) (number_within 0 LAST_MOMENT at) (number_within 1 MOST_TIMES count) []
    else None
next_said (word ∷ kind ∷ text ∷ offset ∷ at ∷ count ∷ zone ∷ []) =
    if bytes_eq word (codes "next")
    then ask_from (kind_said kind) text (offset_said offset) (number_within 0 LAST_MOMENT at) (number_within 1 MOST_TIMES count) zone
    else None
next_said _ = None

-- what is told of what a schedule's text and a zone's text say: the fault of the schedule before that of the zone
abbrev pub answer_text : Ask → Result Plan ScheduleFault → Result Zone ZoneFault → List ℕ
answer_text ask (Ok plan) (Ok zone) = times_text plan zone ask.count ask.from
answer_text ask (Ok plan) (Err fault) = zone_fault_text fault
answer_text ask (Err fault) zone = fault_text fault

-- the status of an answer
abbrev pub answer_status : Result Plan ScheduleFault → Result Zone ZoneFault → Status
answer_status (Ok plan) (Ok zone) = status.Done
answer_status (Ok plan) (Err fault) = status.BadWords
answer_status (Err fault) zone = status.BadWords

-- A text was written with this status, or the sink failed within it.
abbrev pub Wrote : List ℕ → Status → Option (List ℕ) → Option (List ℕ) → ℕ → ℕ → Status → Type 0
Wrote text good taken now wrote wrotes end =
    ((end ≡ good) × Appends taken now text) ⊎ ((end ≡ status.SinkFailed) × Rose wrote wrotes × AppendsFront taken now text)

-- How a question for next times was answered: with the times, or the schedule's fault, or the zone's, unless the sink failed or memory ran out.
abbrev pub NextEnds : Ask → Option (List ℕ) → Option (List ℕ) → ℕ → ℕ → Status → Type 0
NextEnds ask taken now wrote wrotes end =
    Wrote (answer_text ask (parsed ask.kind ask.text) (zone_parsed ask.zone ask.offset)) (answer_status (parsed ask.kind ask.text) (zone_parsed ask.zone ask.offset)) taken now wrote wrotes end
    ⊎ ((end ≡ status.NoMemory) × (now ≡ taken))

-- How words that are none of `run` were answered.
abbrev pub OtherEnds : Option Ask → Option (List ℕ) → Option (List ℕ) → ℕ → ℕ → Status → Type 0
OtherEnds None taken now wrote wrotes end = WordsEnd taken now wrote wrotes end
OtherEnds (Some ask) taken now wrote wrotes end = NextEnds ask taken now wrote wrotes end

-- How a call with these words ended: a run of the lines of the source, or the answer to other words.
abbrev pub CallEnds : List (List ℕ) → Ports → Ports → Status → Type 0
CallEnds words before after end =
    MatchOption (settings_said words)
    (OtherEnds (next_said words) before.taken after.taken before.write_faults after.write_faults end)
    (λ settings. RunEnds (script settings) before after end)
