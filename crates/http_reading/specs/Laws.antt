-- What holds of every list of bytes, every request and every fault.
use Rattle.std.specs.Prelude.{ℕ, ◌≡◌, ◌⊎◌, Bool, List, [], take}
use Rattle.httparse.specs.Grammar.{EndsInTarget, NeverHasRequest}
use Rattle.http_reading.specs.declared.plan.TheConstants.{MOST_LINE}
use Rattle.http_reading.specs.Requests.{Reads, CrowdedHead, HasFault}
use Rattle.http_reading.specs.declared.request.Request.{Request}
use Rattle.http_reading.specs.declared.fault.HttpFault.{HttpFault}
use Rattle.http_reading.specs.Draws.{IsOutside}

-- bytes begin with at most one request, and what follows it is told
abbrev pub OneRequest : Type 0
OneRequest =
    (bytes : List ℕ) (first second : Request) (rest other : List ℕ)
    → Reads bytes first rest → Reads bytes second other → (first ≡ second) × (rest ≡ other)

-- bytes that begin with a request have no fault
abbrev pub NoFault : Type 0
NoFault =
    (bytes : List ℕ) (request : Request) (rest : List ℕ) (ended : Bool) (fault : HttpFault)
    → Reads bytes request rest → HasFault bytes ended fault → IsOutside fault

-- no bytes have no fault
abbrev pub NoneNoFault : Type 0
NoneNoFault = (ended : Bool) (fault : HttpFault) → HasFault [] ended fault → IsOutside fault

-- the parser leaves open which fault a head has: one that ends inside a target which nothing can complete, and one with too many fields
abbrev pub LeavesOpen : List ℕ → Type 0
LeavesOpen bytes = (EndsInTarget (take MOST_LINE bytes) × NeverHasRequest (take MOST_LINE bytes)) ⊎ CrowdedHead bytes

-- bytes have one fault at most, but where that is left open
abbrev pub OneFault : Type 0
OneFault =
    (bytes : List ℕ) (ended : Bool) (first second : HttpFault) → HasFault bytes ended first → HasFault bytes ended second
    → (IsOutside first ⊎ IsOutside second) ⊎ ((first ≡ second) ⊎ LeavesOpen bytes)
