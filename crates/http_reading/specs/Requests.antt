-- Requests at the front of bytes, and the faults of bytes that begin with none.
use Rattle.std.specs.Prelude.{ℕ, ◌≡◌, ◌<◌, ◌≤◌, ◌⊎◌, ◌||◌, Bool, true, false, List, [], length, take, Option, Some, None, is_none, MatchOption}
use Rattle.std.specs.Io.KnownBytes.{prepend_known}
use Rattle.httparse.specs.Grammar.{RequestHead, print_request, ReadsRequest, HasNoRequest, NeverHasRequest, MayBecomeRequest}
use Rattle.httparse.specs.Spans.{RequestOverflows, RequestExceeds}
use Rattle.http_reading.specs.Plans.{fields_of, plan_of, token_of, closes}
use Rattle.http_reading.specs.declared.plan.TheConstants.{MOST_LINE, MOST_FIELDS}
use Rattle.http_reading.specs.Draws.{Draws}
use Rattle.http_reading.specs.Bodies.{ReadsBody, BodyFault}
use Rattle.http_reading.specs.declared.request.Request.{Request}
use Rattle.http_reading.specs.declared.fault.HttpFault.{HttpFault}
use Rattle.http_reading.specs.declared.fault.HttpFault.TheVariants.{Ended, BadHead, TooLarge, BadBody, LinkFault, NoMemory}

-- the bytes begin with this head, which is within the limits, and `behind` follows it
pub record ReadsHead (bytes : List ℕ) (head : RequestHead) (behind : List ℕ) : Type 0 where
  pub reads : ReadsRequest bytes head behind
  pub short : length (print_request head) ≤ MOST_LINE
  pub few : length head.fields ≤ MOST_FIELDS

-- the bytes begin with this request, and `rest` follows it
pub record Reads (bytes : List ℕ) (request : Request) (rest : List ℕ) : Type 0 where
  pub head : RequestHead
  pub behind : List ℕ
  pub reads : ReadsHead bytes head behind
  pub body : ReadsBody (plan_of (fields_of head.fields)) behind false request.body rest
  pub method : request.method ≡ head.method
  pub path : request.path ≡ head.target
  pub token : request.token ≡ token_of (fields_of head.fields)
  pub close : request.close ≡ closes head.minor (fields_of head.fields)

-- a head may come of the bytes, and has not yet
pub record OpenHead (bytes : List ℕ) : Type 0 where
  pub few : length bytes < MOST_LINE
  pub none : HasNoRequest bytes
  pub some : MayBecomeRequest bytes

-- the 16,384 bytes that a head may have are there, and hold none
pub record LongHead (bytes : List ℕ) : Type 0 where
  pub many : MOST_LINE ≤ length bytes
  pub none : HasNoRequest (take MOST_LINE bytes)
  pub some : MayBecomeRequest (take MOST_LINE bytes)

-- a head with too many fields begins, and whatever follows, no other does
pub record CrowdedHead (bytes : List ℕ) : Type 0 where
  pub some : RequestExceeds MOST_FIELDS (take MOST_LINE bytes)
  pub none : RequestOverflows MOST_FIELDS (take MOST_LINE bytes)

-- the fault of bytes that begin with no head; `ended` tells whether they are all that the link had
abbrev pub HeadFault : List ℕ → Bool → HttpFault → Type 0
HeadFault bytes ended (Ended taken) = (ended ≡ true) × (taken ≡ length bytes) × (0 < taken) × OpenHead bytes
HeadFault bytes ended BadHead = NeverHasRequest (take MOST_LINE bytes)
HeadFault bytes ended TooLarge = LongHead bytes ⊎ CrowdedHead bytes
HeadFault bytes ended (BadBody place) = ⊥
HeadFault bytes ended LinkFault = Unit {0}
HeadFault bytes ended NoMemory = Unit {0}

-- the bytes begin with a head, and what follows it has this fault
pub record BehindHead (bytes : List ℕ) (ended : Bool) (fault : HttpFault) : Type 0 where
  pub head : RequestHead
  pub behind : List ℕ
  pub reads : ReadsHead bytes head behind
  pub is : BodyFault (plan_of (fields_of head.fields)) (length (print_request head)) behind ended fault

-- the fault of bytes that begin with no request
abbrev pub HasFault : List ℕ → Bool → HttpFault → Type 0
HasFault bytes ended fault = HeadFault bytes ended fault ⊎ BehindHead bytes ended fault

-- the bytes of a link, where a request is read: those that the buffer holds, and then those left in the link
abbrev pub stream : List ℕ → Option (List ℕ) → Option (List ℕ)
stream held left = prepend_known held left

-- one stream begins with this request, and the other is what follows it, where they are told
abbrev pub TakesRequest : Option (List ℕ) → Option (List ℕ) → Request → Type 0
TakesRequest None after request = Unit {0}
TakesRequest (Some bytes) None request = ⊥
TakesRequest (Some bytes) (Some rest) request = Reads bytes request rest

-- no byte is in either stream, where they are told
abbrev pub TakesNone : Option (List ℕ) → Option (List ℕ) → Type 0
TakesNone None after = Unit {0}
TakesNone (Some bytes) None = ⊥
TakesNone (Some bytes) (Some rest) = (bytes ≡ []) × (rest ≡ [])

-- the stream has this fault, where it is told
abbrev pub FaultOf : Option (List ℕ) → HttpFault → Type 0
FaultOf None fault = Unit {0}
FaultOf (Some bytes) fault = HasFault bytes true fault

-- the fault is an end of the link
abbrev pub IsEnd : HttpFault → Type 0
IsEnd fault = (taken : ℕ) × (fault ≡ Ended taken)

-- a call read so far: the bytes begin with this request, and what follows it stays held; or there are none
-- and the link has ended; it has only then
pub record Took {A : Type 0} (left seen taken : A → Option (List ℕ)) (met : A → Bool) (dial faults : A → ℕ)
    (before now : A) (held holds : List ℕ) (request : Option Request) : Type 0 where
  pub bytes : List ℕ
  pub draws : Draws left seen taken met dial faults before now held bytes (is_none request)
  pub is : MatchOption request ((bytes ≡ []) × (holds ≡ [])) (λ r. Reads bytes r holds)

-- a call met the link's end where it answers no request, and not else: a whole request is answered without
-- a further read, which could meet it
abbrev pub MeetsEnd : Bool → Bool → Option Request → Type 0
MeetsEnd met met' request = met' ≡ (met || is_none request)
