-- Heads that were parsed, as the parser's spans tell them.
use Rattle.std.specs.Prelude.{ℕ, ◌≡◌, ◌≢◌, ◌≤◌, Bool, false, List, [], length, drop, map, Option, is_none, MatchOption}
use Rattle.httparse.specs.declared.spans.HeaderSpan.{HeaderSpan}
use Rattle.httparse.specs.declared.spans.RequestSpans.{RequestSpans}
use Rattle.httparse.specs.Grammar.{RequestHead, print_request, ResponseHead, print_response, status_code}
use Rattle.httparse.specs.Spans.{span_bytes, header_bytes}
use Rattle.http_reading.specs.Plans.{fields_of, plan_of, token_of, closes, to_end}
use Rattle.http_reading.specs.Requests.{ReadsHead, HeadFault}
use Rattle.http_reading.specs.Draws.{Draws}
use Rattle.http_reading.specs.Responses.{ReadsTop, TopFault}
use Rattle.http_reading.specs.declared.head.Head.{Head}
use Rattle.http_reading.specs.declared.top.Top.{Top}
use Rattle.http_reading.specs.declared.fault.HttpFault.{HttpFault}
use Rattle.http_reading.specs.declared.fault.HttpFault.TheVariants.{LinkFault}

-- the head has what the spans cover
pub record HeadSays (bytes : List ℕ) (headers : List HeaderSpan) (spans : RequestSpans) (head : Head) : Type 0 where
  pub size : head.len ≡ spans.len
  pub method : head.method ≡ span_bytes bytes spans.method
  pub path : head.path ≡ span_bytes bytes spans.path
  pub token : head.token ≡ token_of (map (header_bytes bytes) headers)
  pub close : head.close ≡ closes spans.version (map (header_bytes bytes) headers)
  pub plan : head.plan ≡ plan_of (map (header_bytes bytes) headers)

-- the bytes begin with this head of a request
pub record HeadAt (bytes : List ℕ) (head : Head) : Type 0 where
  pub is : RequestHead
  pub reads : ReadsHead bytes is (drop head.len bytes)
  pub size : head.len ≡ length (print_request is)
  pub inside : head.len ≤ length bytes
  pub method : head.method ≡ is.method
  pub path : head.path ≡ is.target
  pub token : head.token ≡ token_of (fields_of is.fields)
  pub close : head.close ≡ closes is.minor (fields_of is.fields)
  pub plan : head.plan ≡ plan_of (fields_of is.fields)

-- the fault that the bytes have, whether more can come or not
abbrev pub HeadRefused : List ℕ → HttpFault → Type 0
HeadRefused bytes fault = (fault ≢ LinkFault) × ((ended : Bool) → HeadFault bytes ended fault)

-- the bytes begin with this head of a response
pub record TopAt (bytes : List ℕ) (top : Top) : Type 0 where
  pub is : ResponseHead
  pub reads : ReadsTop bytes is (drop top.len bytes)
  pub size : top.len ≡ length (print_response is)
  pub inside : top.len ≤ length bytes
  pub status : top.status ≡ status_code is
  pub plan : top.plan ≡ to_end (plan_of (fields_of is.fields))

-- the fault that the bytes have, whether more can come or not
abbrev pub TopRefused : List ℕ → HttpFault → Type 0
TopRefused bytes fault = (fault ≢ LinkFault) × ((ended : Bool) → TopFault bytes ended fault)

-- a call read so far: the bytes begin with this head, or there are none and the link has ended; it has
-- only then
pub record HeadRead {A : Type 0} (left seen taken : A → Option (List ℕ)) (met : A → Bool) (dial faults : A → ℕ)
    (before now : A) (held holds : List ℕ) (head : Option Head) : Type 0 where
  pub draws : Draws left seen taken met dial faults before now held holds (is_none head)
  pub is : MatchOption head (holds ≡ []) (HeadAt holds)

-- a call read so far: the bytes begin with this head, and the end was not met
pub record TopRead {A : Type 0} (left seen taken : A → Option (List ℕ)) (met : A → Bool) (dial faults : A → ℕ)
    (before now : A) (held holds : List ℕ) (top : Top) : Type 0 where
  pub draws : Draws left seen taken met dial faults before now held holds false
  pub is : TopAt holds top
