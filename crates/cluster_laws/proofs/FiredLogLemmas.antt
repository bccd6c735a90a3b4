-- A step and a turn open the logs of their firings.
use Rattle.std.proofs.Common.{◌≡◌, ℕ, List, [], ◌∷◌, ◌++◌, Bool, true, false, cond, eqb, Option, Some, None, is_some, map, refl, sym, ap, ◌∙◌, subst, append-nil}
use Rattle.std.specs.List.{filter, flat_map, slice_get}
use Rattle.job_values.specs.declared.words.TriggerKind.TheVariants as kind
use Rattle.job_records.specs.declared.job.Job.{Job}
use Rattle.cluster_history.specs.declared.scan.Scan.{Scan}
use Rattle.cluster_history.specs.declared.scan.PageEntry.{PageEntry}
use Rattle.cluster_history.specs.History.{History, settings_of}
use Rattle.cluster_history.specs.Groups.{groups_of}
use Rattle.cluster_history.specs.Looks.{Looked, look_in, look_entry, look_row, look_due, job_with}
use Rattle.cluster_history.specs.Jobs.{ids_of, jobs_of, scan_of, look_of}
use Rattle.cluster_history.specs.Tickets.{Waiting, waiting, taken, second_of}
use Rattle.cluster_history.specs.Firings.{shots_of, shots_if, kind_of, shots_for, shots_taken, shots_scanned}
use Rattle.cluster_laws.specs.Dues.{fired_for, fired_now}
use Rattle.cluster_laws.specs.FiredLogs.{shots_fired, why_looked, moment_in, EachFiringOpens}
use Rattle.cluster_laws.proofs.MomentLemmas.{row-found, some-same}

-- a ticket whose job is gone opens nothing
turn-one : (h : History) (at : ℕ) (ticket : Waiting) (found : Option Job) (rest : List Waiting) → job_with ticket.ticket.job (jobs_of h) ≡ found
    → shots_for (groups_of h) (jobs_of h) at rest ≡ flat_map (shots_fired h kind.Cron at) (map fired_for (filter (λ t. is_some (job_with t.ticket.job (jobs_of h))) rest))
    → shots_for (groups_of h) (jobs_of h) at (ticket ∷ rest) ≡ flat_map (shots_fired h kind.Cron at) (map fired_for (cond (is_some found) (ticket ∷ filter (λ t. is_some (job_with t.ticket.job (jobs_of h))) rest) (filter (λ t. is_some (job_with t.ticket.job (jobs_of h))) rest)))
turn-one h at ticket None rest is more =
    ap (λ row. shots_if (groups_of h) kind.Cron at row ++ shots_for (groups_of h) (jobs_of h) at rest) is ∙ more
turn-one h at ticket (Some row) rest is more = ap (λ shots. shots_taken (groups_of h) (jobs_of h) at ticket ++ shots) more

turn-opens : (h : History) (at : ℕ) (tickets : List Waiting)
    → shots_for (groups_of h) (jobs_of h) at tickets ≡ flat_map (shots_fired h kind.Cron at) (map fired_for (filter (λ t. is_some (job_with t.ticket.job (jobs_of h))) tickets))
turn-opens h at [] = refl
turn-opens h at (ticket ∷ tickets) = turn-one h at ticket (job_with ticket.ticket.job (jobs_of h)) tickets refl (turn-opens h at tickets)

-- the row of a look is that of its job
due-present : (h : History) (scan : Scan) (row : Job) (next : Option ℕ) (look : Looked) → job_with row.id (jobs_of h) ≡ Some row → look_due (settings_of h) scan.at row next ≡ Some look → job_with look.row.id (jobs_of h) ≡ Some look.row
due-present h scan row None look is e = (cc)
due-present h scan row (Some due) look is e =
    let same = some-same _ look e in
    let P : Looked → Type 0 = λ l. job_with l.row.id (jobs_of h) ≡ Some l.row in
    subst P same is

edition-present : (h : History) (scan : Scan) (row : Job) (b : Bool) (look : Looked) → job_with row.id (jobs_of h) ≡ Some row → cond b (look_due (settings_of h) scan.at row row.next) None ≡ Some look → job_with look.row.id (jobs_of h) ≡ Some look.row
edition-present h scan row true look is e = due-present h scan row row.next look is e
edition-present h scan row false look is e = (cc)

row-present : (h : History) (scan : Scan) (entry : PageEntry) (found : Option Job) (look : Looked) → job_with entry.job (jobs_of h) ≡ found → look_row (settings_of h) scan.at entry.edition found ≡ Some look → job_with look.row.id (jobs_of h) ≡ Some look.row
row-present h scan entry None look at e = (cc)
row-present h scan entry (Some row) look at e =
    let id : row.id ≡ entry.job = ap (λ (r : Job). r.id) (row-found h entry.job (ids_of h) row at) in
    edition-present h scan row (eqb row.edition entry.edition) look (ap (λ n. job_with n (jobs_of h)) id ∙ at) e

entry-present : (h : History) (scan : Scan) (entry : Option PageEntry) (look : Looked) → look_entry (settings_of h) scan.at (jobs_of h) entry ≡ Some look → job_with look.row.id (jobs_of h) ≡ Some look.row
entry-present h scan None look e = (cc)
entry-present h scan (Some entry) look e = row-present h scan entry (job_with entry.job (jobs_of h)) look refl e

-- a look that fires now opens its logs
look-opens : (h : History) (scan : Scan) (look : Looked) (fires : Bool) → job_with look.row.id (jobs_of h) ≡ Some look.row
    → cond fires (shots_of (groups_of h) (kind_of look.decision.case) scan.at look.row) []
    ≡ flat_map (shots_fired h (kind_of look.decision.case) scan.at) (cond fires (record { job = look.row.id; edition = look.row.edition; due = look.due } ∷ []) [])
look-opens h scan look true is =
    sym (append-nil _ ∙ ap (shots_if (groups_of h) (kind_of look.decision.case) scan.at) is)
look-opens h scan look false is = refl

step-opens : (h : History) (scan : Option Scan) (look : Option Looked) → look_in (settings_of h) scan (jobs_of h) ≡ look
    → shots_scanned (groups_of h) scan look ≡ flat_map (shots_fired h (why_looked look) (moment_in scan)) (fired_now look)
step-opens h None None e = refl
step-opens h None (Some look) e = (cc)
step-opens h (Some scan) None e = refl
step-opens h (Some scan) (Some look) e = look-opens h scan look look.decision.fire_now (entry-present h scan (slice_get scan.page scan.steps) look e)

pub firings-open : EachFiringOpens
firings-open h admin = record {
  step = step-opens h (scan_of h) (look_of h) refl;
  turn = λ at. turn-opens h at (taken admin (second_of at) (waiting h));
}
