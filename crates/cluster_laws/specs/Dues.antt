-- The due times of a job in an edition, and how often each is fired for.
use Rattle.std.specs.Prelude.{ℕ, ◌+◌, ◌<◌, ◌≤◌, ◌==◌, List, [], ◌∷◌, ◌++◌, map, filter, count_by, Bool, ◌&&◌, is_some, Option, Some, None, if◌then◌else◌}
use Rattle.job_values.specs.declared.words.Case.{Case}
use Rattle.job_values.specs.declared.words.Case.TheVariants as case
use Rattle.job_events.specs.declared.cluster.ClusterEvent.{ClusterEvent}
use Rattle.job_events.specs.declared.cluster.ClusterEvent.TheVariants.{ScanStep, Turn}
use Rattle.cluster_history.specs.History.{History, Begin, After, accepted}
use Rattle.cluster_history.specs.Looks.{Looked, job_with}
use Rattle.cluster_history.specs.Jobs.{jobs_of, look_of}
use Rattle.cluster_history.specs.Tickets.{Waiting, waiting, taken, second_of}
use Rattle.cluster_history.specs.Runs.{IsLegal}

-- a late look's put time stands before its due time
abbrev pub times_by : Case → ℕ → Option ℕ → List ℕ
times_by case.Misfire due put = due ∷ []
times_by case.Early due put = due ∷ []
times_by case.Late due None = due ∷ []
times_by case.Late due (Some put) = put ∷ due ∷ []

-- the due time of a look, and in the late case with a put its put time, which is the later one
abbrev pub times_of : Looked → List ℕ
times_of look = times_by look.decision.case look.due look.decision.put

-- the times of a look, before those that were there
abbrev pub dues_looked : Option Looked → ℕ → ℕ → List ℕ → List ℕ
dues_looked None job edition before = before
dues_looked (Some look) job edition before =
    if (job == look.row.id) && (edition == look.row.edition) then times_of look ++ before else before

-- the times of the looks at a job in an edition, the last one first
abbrev pub dues_of : History → ℕ → ℕ → List ℕ
dues_of (Begin o) job edition = []
dues_of (After h (ScanStep admin) r) job edition = dues_looked (look_of h) job edition (dues_of h job edition)
dues_of (After h _ r) job edition = dues_of h job edition

-- each time is above the next one, and the first one is below the bound
abbrev pub FallsFrom : ℕ → List ℕ → Type 0
FallsFrom top [] = Unit {0}
FallsFrom top (t ∷ ts) = (t < top) × FallsFrom t ts

-- each time is above the next one
abbrev pub Falls : List ℕ → Type 0
Falls [] = Unit {0}
Falls (t ∷ ts) = FallsFrom t ts

-- a firing of a job in an edition for a due time
pub record DueFiring : Type 0 where
  pub job : ℕ
  pub edition : ℕ
  pub due : ℕ

-- a look that fires now fires for its due time
abbrev pub fired_now : Option Looked → List DueFiring
fired_now None = []
fired_now (Some look) =
    if look.decision.fire_now then record { job = look.row.id; edition = look.row.edition; due = look.due } ∷ [] else []

-- a ticket fires for its due time
abbrev pub fired_for : Waiting → DueFiring
fired_for one = record { job = one.ticket.job; edition = one.ticket.edition; due = one.ticket.due }

-- the firings of an entry: a look that fires now, and the tickets that a turn takes and whose jobs are present
abbrev pub firings_of : History → ClusterEvent → List DueFiring
firings_of h (ScanStep admin) = fired_now (look_of h)
firings_of h (Turn admin at) =
    map fired_for (filter (λ one. is_some (job_with one.ticket.job (jobs_of h))) (taken admin (second_of at) (waiting h)))
firings_of h _ = []

-- whether a firing is of this job in this edition, for this due time
abbrev pub is_for : ℕ → ℕ → ℕ → DueFiring → Bool
is_for job edition due firing = ((job == firing.job) && (edition == firing.edition)) && (due == firing.due)

-- how often a job in an edition was fired for a due time
abbrev pub times_fired : History → ℕ → ℕ → ℕ → ℕ
times_fired (Begin o) job edition due = 0
times_fired (After h e r) job edition due = count_by (is_for job edition due) (firings_of h e) + times_fired h job edition due

-- the times of a job in an edition rise, and each is fired for at most once, and no other time is
pub record DuesRise (h : History) (job edition : ℕ) : Type 0 where
  pub falls : Falls (dues_of h job edition)
  pub once : (due : ℕ) → times_fired h job edition due ≤ 1
  pub known : (due : ℕ) → times_fired h job edition due ≤ count_by (λ time. due == time) (dues_of h job edition)

-- so in every legal history
abbrev pub EachDueOnce : Type 0
EachDueOnce = (h : History) → IsLegal h → (job edition : ℕ) → DuesRise (accepted h) job edition
