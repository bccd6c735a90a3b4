-- Due times rise.
use Rattle.std.proofs.Common.{◌≡◌, ◌≢◌, ℕ, ◌+◌, ◌<◌, ◌≤◌, List, [], ◌∷◌, ◌++◌, Bool, true, false, cond, eqb, nat_lt, ◌&&◌, Option, Some, None, map, refl, sym, ap, ◌∙◌, subst, arith}
use Rattle.std.proofs.lemmas.Bool.Decides.{nat_tests}
use Rattle.job_values.specs.declared.words.Misfire.{Misfire}
use Rattle.job_values.specs.declared.words.Case.TheVariants as case
use Rattle.job_events.specs.declared.cluster.ClusterEvent.TheVariants.{AddJob, UpdateJob, StartJob, StopJob, ScanStep}
use Rattle.job_records.specs.declared.job.Job.{Job}
use Rattle.job_records.specs.Rows.{IsRising}
use Rattle.job_records.proofs.RowLemmas.{rising-ends}
use Rattle.zone_texts.specs.declared.zone.Zone.{Zone}
use Rattle.cron_schedule.specs.declared.plan.Plan.{Plan}
use Rattle.cron_schedule.specs.After.{time_after, TimesRise}
use Rattle.misfire_rules.specs.declared.decision.Decision.{Decision}
use Rattle.misfire_rules.specs.Decide.{decided, misfire_decision, late_decision, late_with, early_decision}
use Rattle.cluster_history.specs.declared.settings.Settings.{Settings}
use Rattle.cluster_history.specs.declared.scan.Scan.{Scan}
use Rattle.cluster_history.specs.declared.scan.PageEntry.{PageEntry}
use Rattle.cluster_history.specs.History.{History, Begin, After, opening_of, settings_of}
use Rattle.cluster_history.specs.Zones.{zone_of}
use Rattle.cluster_history.specs.Looks.{Looked, look_in, look_entry, look_row, look_due, next_looked, job_with}
use Rattle.cluster_history.specs.Jobs.{last_job, ids_of, jobs_of, row_of, spec_of, edition_of, plan_of, next_of, scan_of, look_of, first_time, updated_time}
use Rattle.cluster_history.specs.Runs.{OpensWell}
use Rattle.cluster_history.proofs.RowIds.{ids_rise}
use Rattle.cluster_laws.specs.Dues.{times_by, times_of, dues_looked, dues_of, FallsFrom, Falls}
use Rattle.cluster_laws.proofs.MomentLemmas.{LooksRight, entry-right, some-same}
use Rattle.std.specs.List.{slice_get}

-- all times are below the next one, where there is one
abbrev pub Under : Option ℕ → List ℕ → Type 0
Under None ts = Falls ts
Under (Some n) ts = FallsFrom n ts

falls-from : (n : ℕ) (ts : List ℕ) → FallsFrom n ts → Falls ts
falls-from n [] h = tt
falls-from n (t ∷ ts) h = h.1

pub under-falls : (next : Option ℕ) (ts : List ℕ) → Under next ts → Falls ts
under-falls None ts h = h
under-falls (Some n) ts h = falls-from n ts h

later-by : (rise : TimesRise) (plan : Plan) (zone : Zone) (now t : ℕ) (ts : List ℕ) (next : Option ℕ) → time_after plan zone now ≡ next → t ≤ now → FallsFrom t ts → Under next (t ∷ ts)
later-by rise plan zone now t ts None e before falls = falls
later-by rise plan zone now t ts (Some n) e before falls = let above : now < n = (rise plan zone now n e).0 in (omega arith, falls)

-- the time after a moment is above a time up to it
later : (rise : TimesRise) (plan : Plan) (zone : Zone) (now t : ℕ) (ts : List ℕ) → t ≤ now → FallsFrom t ts → Under (time_after plan zone now) (t ∷ ts)
later rise plan zone now t ts before falls = later-by rise plan zone now t ts (time_after plan zone now) refl before falls

-- the new next time is above the times of a look and those before
abbrev Keeps : ℕ → List ℕ → Decision → Type 0
Keeps due ts d = Under d.next (times_by d.case due d.put ++ ts)

late-put : (rise : TimesRise) (plan : Plan) (zone : Zone) (now near due : ℕ) (ts : List ℕ) (b : Bool) → due < near → FallsFrom due ts
    → Keeps due ts (cond b (record { case = case.Late; fire_now = true; put = Some near; next = time_after plan zone near }) (record { case = case.Late; fire_now = true; put = None; next = Some near }))
late-put rise plan zone now near due ts true above falls = later rise plan zone near near (due ∷ ts) (omega arith) (above, falls)
late-put rise plan zone now near due ts false above falls = (above, falls)

late-keeps : (rise : TimesRise) (plan : Plan) (zone : Zone) (now due : ℕ) (ts : List ℕ) (after : Option ℕ) → time_after plan zone now ≡ after → due < now → FallsFrom due ts → Keeps due ts (late_with plan zone now after)
late-keeps rise plan zone now due ts None e before falls = falls
late-keeps rise plan zone now due ts (Some near) e before falls =
    let above : now < near = (rise plan zone now near e).0 in
    late-put rise plan zone now near due ts (nat_lt near (now + 5000)) (omega arith) falls

decided-by : (rise : TimesRise) (plan : Plan) (misfire : Misfire) (zone : Zone) (now due : ℕ) (ts : List ℕ) (missed late : Bool) → nat_lt (due + 5000) now ≡ missed → nat_lt due now ≡ late → FallsFrom due ts
    → Keeps due ts (cond missed (misfire_decision plan misfire zone now) (cond late (late_decision plan zone now) (early_decision plan zone due)))
decided-by rise plan misfire zone now due ts true late e f falls = let before : due + 5000 < now = grind (arith, nat_tests) in later rise plan zone now due ts (omega arith) falls
decided-by rise plan misfire zone now due ts false true e f falls = let before : due < now = grind (arith, nat_tests) in late-keeps rise plan zone now due ts (time_after plan zone now) refl before falls
decided-by rise plan misfire zone now due ts false false e f falls = later rise plan zone due due ts (omega arith) falls

pub decided-keeps : (rise : TimesRise) (plan : Plan) (misfire : Misfire) (zone : Zone) (now due : ℕ) (ts : List ℕ) → FallsFrom due ts → Keeps due ts (decided due plan misfire zone now)
decided-keeps rise plan misfire zone now due ts falls = decided-by rise plan misfire zone now due ts (nat_lt (due + 5000) now) (nat_lt due now) refl refl falls

-- no present id is above the last one
abbrev LowIds : ℕ → List ℕ → Type 0
LowIds last [] = Unit {0}
LowIds last (j ∷ js) = (j ≤ last) × LowIds last js

rising-low : (low last : ℕ) (ids : List ℕ) → IsRising (λ id. id) low ids last → LowIds last ids
rising-low low last [] rising = tt
rising-low low last (j ∷ js) rising = (rising-ends (λ (id : ℕ). id) j last js rising.1, rising-low j last js rising.1)

ids-low : (h : History) → OpensWell (opening_of h) → LowIds (last_job h) (ids_of h)
ids-low h well = rising-low 0 (last_job h) (ids_of h) (ids_rise h well)

low-here : (h : History) (last job j : ℕ) (rest : Option Job) (row : Job) (b : Bool) → j ≤ last → (rest ≡ Some row → row.id ≤ last) → cond b (Some (row_of h j)) rest ≡ Some row → row.id ≤ last
low-here h last job j rest row true low more e = let same : row_of h j ≡ row = some-same (row_of h j) row e in let id : j ≡ row.id = ap (λ (r : Job). r.id) same in omega arith
low-here h last job j rest row false low more e = more e

low-found : (h : History) (last job : ℕ) (ids : List ℕ) (row : Job) → LowIds last ids → job_with job (map (row_of h) ids) ≡ Some row → row.id ≤ last
low-found h last job [] row low e = (cc)
low-found h last job (j ∷ ids) row low e = low-here h last job j (job_with job (map (row_of h) ids)) row (eqb j job) low.0 (low-found h last job ids row low.1) e

-- a look is at a job up to the last one
low-due : (last : ℕ) (settings : Settings) (at : ℕ) (row : Job) (next : Option ℕ) (look : Looked) → row.id ≤ last → look_due settings at row next ≡ Some look → look.row.id ≤ last
low-due last settings at row None look low e = (cc)
low-due last settings at row (Some due) look low e =
    let same : record { row = row; due = due; decision = decided due row.schedule row.spec.misfire (zone_of settings row.spec) at } ≡ look = some-same _ look e in
    let id : row.id ≡ look.row.id = ap (λ (l : Looked). l.row.id) same in omega arith

low-edition : (last : ℕ) (settings : Settings) (at : ℕ) (row : Job) (b : Bool) (look : Looked) → row.id ≤ last → cond b (look_due settings at row row.next) None ≡ Some look → look.row.id ≤ last
low-edition last settings at row true look low e = low-due last settings at row row.next look low e
low-edition last settings at row false look low e = (cc)

low-row : (h : History) (last : ℕ) (settings : Settings) (at : ℕ) (entry : PageEntry) (found : Option Job) (look : Looked) → LowIds last (ids_of h) → job_with entry.job (jobs_of h) ≡ found → look_row settings at entry.edition found ≡ Some look → look.row.id ≤ last
low-row h last settings at entry None look low f e = (cc)
low-row h last settings at entry (Some row) look low f e = low-edition last settings at row (eqb row.edition entry.edition) look (low-found h last entry.job (ids_of h) row low f) e

low-entry : (h : History) (last : ℕ) (settings : Settings) (at : ℕ) (entry : Option PageEntry) (look : Looked) → LowIds last (ids_of h) → look_entry settings at (jobs_of h) entry ≡ Some look → look.row.id ≤ last
low-entry h last settings at None look low e = (cc)
low-entry h last settings at (Some entry) look low e = low-row h last settings at entry (job_with entry.job (jobs_of h)) look low refl e

-- what is kept of a job in an edition along a history
pub record Holds (j e last edition : ℕ) (next : Option ℕ) (dues : List ℕ) : Type 0 where
  pub falls : Falls dues
  pub under : edition ≡ e → Under next dues
  pub fresh : edition < e → dues ≡ []
  pub unborn : last < j → dues ≡ []

under-empty : (next : Option ℕ) → Under next []
under-empty None = tt
under-empty (Some n) = tt

under-none : (next : Option ℕ) (dues : List ℕ) → dues ≡ [] → Under next dues
under-none next dues e = let P : List ℕ → Type 0 = λ ts. Under next ts in subst P (sym e) (under-empty next)

holds-started : (j e last edition : ℕ) (next first : Option ℕ) (dues : List ℕ) (b : Bool) → Holds j e last edition next dues → Holds j e last (cond b (edition + 1) edition) (cond b first next) dues
holds-started j e last edition next first dues false h = h
holds-started j e last edition next first dues true h = record {
  falls = h.falls;
  under = λ same. under-none first dues (h.fresh (omega arith));
  fresh = λ lower. h.fresh (omega arith);
  unborn = h.unborn;
}

holds-added : (j e last edition : ℕ) (next : Option ℕ) (dues : List ℕ) (b : Bool) → eqb j (last + 1) ≡ b → Holds j e last edition next dues → Holds j e (last + 1) (cond b 0 edition) (cond b None next) dues
holds-added j e last edition next dues false test h = record { falls = h.falls; under = h.under; fresh = h.fresh; unborn = λ above. h.unborn (omega arith) }
holds-added j e last edition next dues true test h =
    let new : j ≡ last + 1 = grind (arith, nat_tests) in
    let none : dues ≡ [] = h.unborn (omega arith) in
    record { falls = h.falls; under = λ same. under-none None dues none; fresh = λ lower. none; unborn = λ above. none }

holds-looked : (rise : TimesRise) (h : History) (scan : Scan) (look : Looked) (j e : ℕ) (dues : List ℕ) (same_job same_edition : Bool) → eqb j look.row.id ≡ same_job → eqb e look.row.edition ≡ same_edition
    → LooksRight h scan look → look.row.id ≤ last_job h → Holds j e (last_job h) (edition_of h j) (next_of h j) dues
    → Holds j e (last_job h) (edition_of h j) (cond same_job look.decision.next (next_of h j)) (cond (same_job && same_edition) (times_of look ++ dues) dues)
holds-looked rise h scan look j e dues false same_edition t u right low holds = holds
holds-looked rise h scan look j e dues true false t u right low holds =
    let job : j ≡ look.row.id = grind (arith, nat_tests) in
    let edition : edition_of h j ≡ look.row.edition = ap (edition_of h) job ∙ ap (λ (r : Job). r.edition) (sym right.row) in
    let other : e ≢ look.row.edition = λ (same : e ≡ look.row.edition). absurd (let yes_same : eqb e look.row.edition ≡ true = grind (arith, nat_tests) in let contra : true ≡ false = sym yes_same ∙ u in (cc)) in
    record { falls = holds.falls; under = λ same. absurd (other (sym same ∙ edition)); fresh = holds.fresh; unborn = holds.unborn }
holds-looked rise h scan look j e dues true true t u right low holds =
    let job : j ≡ look.row.id = grind (arith, nat_tests) in
    let this : e ≡ look.row.edition = grind (arith, nat_tests) in
    let edition : edition_of h j ≡ e = ap (edition_of h) job ∙ ap (λ (r : Job). r.edition) (sym right.row) ∙ sym this in
    let due : next_of h j ≡ Some look.due = ap (next_of h) job ∙ right.due in
    let P : Option ℕ → Type 0 = λ n. Under n dues in
    let before : FallsFrom look.due dues = subst P due (holds.under edition) in
    let D : Decision → Type 0 = λ d. Keeps look.due dues d in
    let after : Keeps look.due dues look.decision = subst D (sym right.decision) (decided-keeps rise look.row.schedule look.row.spec.misfire (zone_of (settings_of h) look.row.spec) scan.at look.due dues before) in
    record {
      falls = under-falls look.decision.next (times_of look ++ dues) after;
      under = λ same. after;
      fresh = λ lower. absurd (omega arith);
      unborn = λ above. absurd (omega arith);
    }

holds-stepped : (rise : TimesRise) (h : History) (scan : Option Scan) (look : Option Looked) (j e : ℕ) (dues : List ℕ) → look_in (settings_of h) scan (jobs_of h) ≡ look → LowIds (last_job h) (ids_of h)
    → Holds j e (last_job h) (edition_of h j) (next_of h j) dues → Holds j e (last_job h) (edition_of h j) (next_looked look j (next_of h j)) (dues_looked look j e dues)
holds-stepped rise h scan None j e dues is low holds = holds
holds-stepped rise h None (Some look) j e dues is low holds = (cc)
holds-stepped rise h (Some scan) (Some look) j e dues is low holds =
    holds-looked rise h scan look j e dues (eqb j look.row.id) (eqb e look.row.edition) refl refl (entry-right h scan (slice_get scan.page scan.steps) look is)
    (low-entry h (last_job h) (settings_of h) scan.at (slice_get scan.page scan.steps) look low is) holds

pub dues-hold : (rise : TimesRise) (h : History) (j e : ℕ) → OpensWell (opening_of h) → Holds j e (last_job h) (edition_of h j) (next_of h j) (dues_of h j e)
dues-hold rise (Begin o) j e well = record { falls = tt; under = λ same. under-empty (next_of (Begin o) j); fresh = λ lower. refl; unborn = λ above. refl }
dues-hold rise (After h (AddJob spec) r) j e well = holds-added j e (last_job h) (edition_of h j) (next_of h j) (dues_of h j e) (eqb j (last_job h + 1)) refl (dues-hold rise h j e well)
dues-hold rise (After h (UpdateJob at job spec) r) j e well = holds-started j e (last_job h) (edition_of h j) (next_of h j) (updated_time (zone_of (settings_of h) spec) (plan_of spec) at (next_of h j)) (dues_of h j e) (eqb j job) (dues-hold rise h j e well)
dues-hold rise (After h (StartJob at job) r) j e well = holds-started j e (last_job h) (edition_of h j) (next_of h j) (first_time (zone_of (settings_of h) (spec_of h j)) (plan_of (spec_of h j)) at) (dues_of h j e) (eqb j job) (dues-hold rise h j e well)
dues-hold rise (After h (StopJob job) r) j e well = holds-started j e (last_job h) (edition_of h j) (next_of h j) None (dues_of h j e) (eqb j job) (dues-hold rise h j e well)
dues-hold rise (After h (ScanStep admin) r) j e well = holds-stepped rise h (scan_of h) (look_of h) j e (dues_of h j e) refl (ids-low h well) (dues-hold rise h j e well)
dues-hold rise (After h _ r) j e well = dues-hold rise h j e well
