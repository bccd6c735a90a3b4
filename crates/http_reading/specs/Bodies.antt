-- Bodies, as a head says how they are read.
use Rattle.std.specs.Prelude.{ℕ, ◌≡◌, ◌+◌, ◌<◌, ◌≤◌, Bool, true, List, [], ◌++◌, length}
use Rattle.job_values.specs.declared.limits.TheConstants.{LONGEST_BODY}
use Rattle.http_reading.specs.Chunks.{ReadsChunked, ChunkedFault}
use Rattle.http_reading.specs.declared.plan.BodyPlan.{BodyPlan}
use Rattle.http_reading.specs.declared.plan.BodyPlan.TheVariants.{Empty, Sized, Chunked, ToEnd, Bad, TooLarge as Huge}
use Rattle.http_reading.specs.declared.fault.HttpFault.{HttpFault}
use Rattle.http_reading.specs.declared.fault.HttpFault.TheVariants.{Ended, TooLarge, BadBody, LinkFault, NoMemory}

-- the bytes behind a head begin with this body, and `rest` follows it; `ended` tells whether the bytes
-- are all that the link had
abbrev pub ReadsBody : BodyPlan → List ℕ → Bool → List ℕ → List ℕ → Type 0
ReadsBody Empty bytes ended body rest = (body ≡ []) × (bytes ≡ rest)
ReadsBody (Sized n) bytes ended body rest = (length body ≡ n) × (bytes ≡ body ++ rest)
ReadsBody Chunked bytes ended body rest = ReadsChunked bytes body rest
ReadsBody ToEnd bytes ended body rest = (ended ≡ true) × (length body ≤ LONGEST_BODY) × (bytes ≡ body) × (rest ≡ [])
ReadsBody Bad bytes ended body rest = ⊥
ReadsBody Huge bytes ended body rest = ⊥

-- the fault of the bytes behind a head of so many bytes
abbrev pub BodyFault : BodyPlan → ℕ → List ℕ → Bool → HttpFault → Type 0
BodyFault plan start bytes ended LinkFault = Unit {0}
BodyFault plan start bytes ended NoMemory = Unit {0}
BodyFault (Sized n) start bytes ended (Ended taken) =
    (ended ≡ true) × (taken ≡ start + length bytes) × (length bytes < n)
BodyFault Chunked start bytes ended fault = ChunkedFault start bytes ended fault
BodyFault ToEnd start bytes ended TooLarge = LONGEST_BODY < length bytes
BodyFault Bad start bytes ended (BadBody place) = place ≡ start
BodyFault Huge start bytes ended TooLarge = Unit {0}
BodyFault _ start bytes ended _ = ⊥
