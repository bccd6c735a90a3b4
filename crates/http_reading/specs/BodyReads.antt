-- Bodies that a call has read.
use Rattle.std.specs.Prelude.{ℕ, ◌≤◌, Bool, List, length, drop, Option}
use Rattle.http_reading.specs.Draws.{Draws}
use Rattle.http_reading.specs.Plans.{is_to_end}
use Rattle.http_reading.specs.Bodies.{ReadsBody, BodyFault}
use Rattle.http_reading.specs.declared.plan.BodyPlan.{BodyPlan}
use Rattle.http_reading.specs.declared.body.Body.{Body}
use Rattle.http_reading.specs.declared.fault.HttpFault.{HttpFault}

-- a call read so far: the bytes from `start` on begin with this body; the end was met where the body
-- goes to it, and not else
pub record BodyRead {A : Type 0} (left seen taken : A → Option (List ℕ)) (met : A → Bool) (dial faults : A → ℕ)
    (before now : A) (held holds : List ℕ) (plan : BodyPlan) (start : ℕ) (body : Body) : Type 0 where
  pub draws : Draws left seen taken met dial faults before now held holds (is_to_end plan)
  pub inside : body.end ≤ length holds
  pub is : ReadsBody plan (drop start holds) (is_to_end plan) body.bytes (drop body.end holds)

-- the bytes from `start` on have this fault
abbrev pub Behind : BodyPlan → ℕ → List ℕ → Bool → HttpFault → Type 0
Behind plan start holds ended fault = BodyFault plan start (drop start holds) ended fault
