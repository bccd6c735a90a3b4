-- A script with one line more.
use Rattle.std.proofs.Common.{◌≡◌, ℕ, ◌+◌, ◌≤◌, List, [], ◌∷◌, ◌++◌, length, refl, ap, sym, ◌∙◌, subst, arith}
use Rattle.job_events.specs.declared.report.Report.{Report}
use Rattle.job_events.specs.declared.cluster.ClusterEvent.{ClusterEvent}
use Rattle.job_events.specs.declared.cluster.ClusterReply.{ClusterReply}
use Rattle.cluster_history.specs.declared.settings.Settings.{Settings}
use Rattle.cluster_history.specs.History.{History, After}
use Rattle.cluster_history.specs.Replies.{reply_of}
use Rattle.cluster_history.specs.Runs.{run, report_of}
use Rattle.cluster_core.specs.Stands.{StandsFor}
use Rattle.cluster_core.specs.Stands as core
use Rattle.script_text.specs.Faults.{IsColumn, TellsColumn}
use Rattle.script_text.specs.Replies.{reply_text, report_text}
use Rattle.line_program.specs.Steps.{Answered}
use Rattle.line_program.specs.declared.limits.TheConstants.{LAST_LINE_BYTES}
use Rattle.replay_program.specs.Script.{opening, report_with, report_line, script_play}
use Rattle.replay_program.specs.declared.machine.Machine.{Machine}

run_more : (h : History) (es : List ClusterEvent) (e : ClusterEvent) → run h (es ++ e ∷ []) ≡ After (run h es) e (reply_of (run h es) e)
run_more h [] e = refl
run_more h (x ∷ es) e = run_more (After h x (reply_of h x)) es e

-- the column of a line that is not long is told as it is
pub told_exactly : (line : List ℕ) (told : ℕ) → length line ≤ LAST_LINE_BYTES + 1 → TellsColumn line told → IsColumn line told
told_exactly line told short tells =
    let exact : tells.0 ≡ told = omega (arith, tells.1.2, tells.2, short) in
    subst (IsColumn line) exact tells.1

-- the machine answers an event
pub answered : (settings : Settings) (old new : Machine) (events : List ClusterEvent) (e : ClusterEvent) (reply : ClusterReply) (before after : List ℕ) →
    core.Answers old.cluster e reply new.cluster → after ≡ before ++ reply_text reply → StandsFor old.cluster (run (opening settings) events) →
    Answered script_play settings new events e before after
answered settings old new events e reply before after answers buffer stands =
    let h : History = run (opening settings) events in
    let answer = answers h stands in
    let P : History → Type 0 = λ t. StandsFor new.cluster t in
    record {
      stands = subst P (ap (λ r. After h e r) answer.reply ∙ sym (run_more (opening settings) events e)) answer.stands;
      buffer = buffer ∙ ap (λ r. before ++ reply_text r) answer.reply;
    }

-- the counts of a run, with the number of its lines, are its report
pub reports_run : (settings : Settings) (lines : ℕ) (events : List ClusterEvent) (counts : Report) → length events ≡ lines →
    counts ≡ report_of (run (opening settings) events) → report_text (report_with lines counts) ≡ report_line settings events
reports_run settings lines events counts count is =
    ap (λ n. report_text (report_with n counts)) (sym count) ∙ ap (λ r. report_text (report_with (length events) r)) is
