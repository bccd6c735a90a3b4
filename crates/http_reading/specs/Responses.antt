-- Responses at the front of bytes, and the faults of bytes that begin with none.
use Rattle.std.specs.Prelude.{ℕ, ◌≡◌, ◌≤◌, ◌<◌, ◌⊎◌, ◌||◌, Bool, true, List, length, take, Option}
use Rattle.std.specs.Io.KnownBytes.{Appends, Consumes}
use Rattle.httparse.specs.Grammar.{ResponseHead, print_response, ReadsResponse, HasNoResponse, NeverHasResponse, MayBecomeResponse, status_code}
use Rattle.httparse.specs.Spans.{ResponseOverflows, ResponseExceeds}
use Rattle.http_reading.specs.Plans.{fields_of, plan_of, to_end, is_to_end}
use Rattle.http_reading.specs.declared.plan.TheConstants.{MOST_LINE, MOST_FIELDS}
use Rattle.http_reading.specs.Bodies.{ReadsBody, BodyFault}
use Rattle.http_reading.specs.declared.response.Response.{Response}
use Rattle.http_reading.specs.declared.fault.HttpFault.{HttpFault}
use Rattle.http_reading.specs.declared.fault.HttpFault.TheVariants.{Ended, BadHead, TooLarge, BadBody, LinkFault, NoMemory}

-- the bytes begin with this head, which is within the limits, and `behind` follows it
pub record ReadsTop (bytes : List ℕ) (head : ResponseHead) (behind : List ℕ) : Type 0 where
  pub reads : ReadsResponse bytes head behind
  pub short : length (print_response head) ≤ MOST_LINE
  pub few : length head.fields ≤ MOST_FIELDS

-- the bytes begin with this response, and `rest` follows it; `ended` tells whether they are all that the link had
pub record ReadsAnswer (bytes : List ℕ) (ended : Bool) (response : Response) (rest : List ℕ) : Type 0 where
  pub head : ResponseHead
  pub behind : List ℕ
  pub reads : ReadsTop bytes head behind
  pub body : ReadsBody (to_end (plan_of (fields_of head.fields))) behind ended response.body rest
  pub status : response.status ≡ status_code head

-- a head may come of the bytes, and has not yet
pub record OpenTop (bytes : List ℕ) : Type 0 where
  pub few : length bytes < MOST_LINE
  pub none : HasNoResponse bytes
  pub some : MayBecomeResponse bytes

-- the 16,384 bytes that a head may have are there, and hold none
pub record LongTop (bytes : List ℕ) : Type 0 where
  pub many : MOST_LINE ≤ length bytes
  pub none : HasNoResponse (take MOST_LINE bytes)
  pub some : MayBecomeResponse (take MOST_LINE bytes)

-- a head with too many fields begins, and whatever follows, no other does
pub record CrowdedTop (bytes : List ℕ) : Type 0 where
  pub some : ResponseExceeds MOST_FIELDS (take MOST_LINE bytes)
  pub none : ResponseOverflows MOST_FIELDS (take MOST_LINE bytes)

-- the fault of bytes that begin with no head
abbrev pub TopFault : List ℕ → Bool → HttpFault → Type 0
TopFault bytes ended (Ended taken) = (ended ≡ true) × (taken ≡ length bytes) × OpenTop bytes
TopFault bytes ended BadHead = NeverHasResponse (take MOST_LINE bytes)
TopFault bytes ended TooLarge = LongTop bytes ⊎ CrowdedTop bytes
TopFault bytes ended (BadBody place) = ⊥
TopFault bytes ended LinkFault = Unit {0}
TopFault bytes ended NoMemory = Unit {0}

-- the bytes begin with a head, and what follows it has this fault
pub record BehindTop (bytes : List ℕ) (ended : Bool) (fault : HttpFault) : Type 0 where
  pub head : ResponseHead
  pub behind : List ℕ
  pub reads : ReadsTop bytes head behind
  pub is : BodyFault (to_end (plan_of (fields_of head.fields))) (length (print_response head)) behind ended fault

-- the fault of bytes that begin with no response
abbrev pub HasAnswerFault : List ℕ → Bool → HttpFault → Type 0
HasAnswerFault bytes ended fault = TopFault bytes ended fault ⊎ BehindTop bytes ended fault

-- in a call bytes were read of a link, and its end was met in it or not
pub record Heard (left left' seen seen' : Option (List ℕ)) (met met' : Bool) (bytes : List ℕ) (ended : Bool) : Type 0 where
  pub gone : Consumes left left' bytes
  pub told : Appends seen seen' bytes
  pub end : met' ≡ (met || ended)

-- the bytes that a call read begin with this response, and the end was met where its body goes to it, and not else
pub record HearsAnswer (left left' seen seen' : Option (List ℕ)) (met met' : Bool) (response : Response) : Type 0 where
  pub bytes : List ℕ
  pub ended : Bool
  pub heard : Heard left left' seen seen' met met' bytes ended
  pub rest : List ℕ
  pub is : ReadsAnswer bytes ended response rest
  pub early : ended ≡ is_to_end (to_end (plan_of (fields_of is.head.fields)))

-- the bytes that a call read have this fault
pub record HearsFault (left left' seen seen' : Option (List ℕ)) (met met' : Bool) (fault : HttpFault) : Type 0 where
  pub bytes : List ℕ
  pub ended : Bool
  pub heard : Heard left left' seen seen' met met' bytes ended
  pub is : HasAnswerFault bytes ended fault
