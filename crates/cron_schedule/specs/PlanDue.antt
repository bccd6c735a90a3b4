-- When a plan is due, and that the time after a moment is the least such.
use Rattle.std.specs.Prelude.{◌≡◌, ℕ, ◌+◌, ◌<◌, ◌≤◌, ℤ, List, Option, Some, None}
use Rattle.job_values.specs.declared.limits.TheConstants.{LAST_MOMENT}
use Rattle.zone_texts.specs.declared.zone.Zone.{Zone}
use Rattle.cron_schedule.specs.declared.item.FieldItem.{FieldItem}
use Rattle.cron_schedule.specs.declared.plan.Plan.{Plan}
use Rattle.cron_schedule.specs.declared.plan.Plan.TheVariants.{Never, Every, Cron}
use Rattle.cron_schedule.specs.First.{first_in}
use Rattle.cron_schedule.specs.Due.{DayDue, DueIn, is_due}
use Rattle.cron_schedule.specs.After.{time_after}

-- a moment is due by itself only under a cron text
abbrev pub IsDueAt : Plan → Zone → ℕ → Type 0
IsDueAt Never zone t = ⊥
IsDueAt (Every seconds) zone t = ⊥
IsDueAt (Cron items) zone t = DueIn items zone t

-- a day number is in the four sets of a cron text
abbrev pub IsDayDueAt : Plan → ℤ → Type 0
IsDayDueAt Never day = ⊥
IsDayDueAt (Every seconds) day = ⊥
IsDayDueAt (Cron items) day = DayDue items day

-- r is the least moment after t with a property, up to the last moment; or there is none
abbrev pub IsLeastAfter : (ℕ → Type 0) → ℕ → Option ℕ → Type 0
IsLeastAfter P t None = (v : ℕ) → t < v → v ≤ LAST_MOMENT → P v → ⊥
IsLeastAfter P t (Some r) =
    (t < r) × (r ≤ LAST_MOMENT) × P r × ((v : ℕ) → t < v → P v → r ≤ v)

-- the time after a moment is the least moment after it at which a cron text is due
abbrev pub TimeIsLeast : Type 0
TimeIsLeast =
    (items : List FieldItem) (zone : Zone) (t : ℕ) → IsLeastAfter (DueIn items zone) t (time_after (Cron items) zone t)

-- and what is the least is the time after
abbrev pub LeastIsTime : Type 0
LeastIsTime =
    (items : List FieldItem) (zone : Zone) (t : ℕ) (r : Option ℕ) → IsLeastAfter (DueIn items zone) t r
    → r ≡ time_after (Cron items) zone t

-- in a zone of one offset the clock is always that far ahead
abbrev pub OneOffset : Type 0
OneOffset =
    (items : List FieldItem) (zone : Zone) (t : ℕ) → zone.rules ≡ None
    → time_after (Cron items) zone t ≡ first_in (is_due items zone.standard) (t + 1) (LAST_MOMENT + 1)
