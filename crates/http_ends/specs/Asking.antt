-- What an ask shows: one dial more, what its link carried, and the answer that was made of it.
use Rattle.std.specs.Prelude.{◌≡◌, ◌≢◌, ℕ, Bool, true, false, List, [], ◌∷◌, ◌++◌, take, ⊤, Option, Some, None, Result, Ok, Err, MatchResult}
use Rattle.outside.specs.declared.dialed.Dialed.{Dialed}
use Rattle.outside.specs.declared.dialed.Shown.{Shown}
use Rattle.http_reading.specs.declared.response.Response.{Response}
use Rattle.http_reading.specs.declared.fault.HttpFault.{HttpFault}
use Rattle.http_reading.specs.declared.fault.HttpFault.TheVariants.{LinkFault, NoMemory}
use Rattle.http_reading.specs.Responses.{ReadsAnswer, HasAnswerFault}
use Rattle.http_ends.specs.Addresses.{Address}
use Rattle.http_ends.specs.declared.asking.AskFault.{AskFault}
use Rattle.http_ends.specs.declared.asking.AskFault.TheVariants.{BadAddress, DialFault, Http}

-- the bytes that were read, and whether the link's end was met, show this response, or this fault
abbrev pub IsAnswer : List ℕ → Bool → Result Response HttpFault → Type 0
IsAnswer bytes ended result =
    MatchResult result (λ response. (rest : List ℕ) × ReadsAnswer bytes ended response rest) (HasAnswerFault bytes ended)

-- what a link carried for a request, and the answer that was made of it: the request was written whole, or a
-- front of it where the link failed or memory ran out
pub record Exchanged (text written read : List ℕ) (met faulted : Bool) (result : Result Response HttpFault) : Type 0 where
  pub count : ℕ
  pub front : written ≡ take count text
  pub whole : result ≢ Err LinkFault → result ≢ Err NoMemory → written ≡ text
  pub answer : IsAnswer read met result
  pub cause : result ≡ Err LinkFault → faulted ≡ true

-- what a link tells that was fresh and carried this
pub record Carries (text : List ℕ) (seen taken : Option (List ℕ)) (met faulted : Bool) (result : Result Response HttpFault) : Type 0 where
  pub written : List ℕ
  pub read : List ℕ
  pub seen_is : seen ≡ Some read
  pub taken_is : taken ≡ Some written
  pub exchanged : Exchanged text written read met faulted result

-- what a dial shows whose link carried this
pub record ShowsExchange (shown : Option Shown) (text : List ℕ) (result : Result Response HttpFault) : Type 0 where
  pub told : Shown
  pub is : shown ≡ Some told
  pub exchanged : Exchanged text told.written told.read told.met told.faulted result

-- what the dial of an ask shows, by the answer of the ask
abbrev pub ShowsAsk : Option Shown → List ℕ → Result Response AskFault → Type 0
ShowsAsk shown text (Ok response) = ShowsExchange shown text (Ok response)
ShowsAsk shown text (Err BadAddress) = ⊥
ShowsAsk shown text (Err DialFault) = shown ≡ None
ShowsAsk shown text (Err (Http fault)) = ShowsExchange shown text (Err fault)

-- the dial failed
abbrev pub is_dial_fault : Result Response AskFault → Bool
is_dial_fault (Ok response) = false
is_dial_fault (Err BadAddress) = false
is_dial_fault (Err DialFault) = true
is_dial_fault (Err (Http fault)) = false

-- the dial of an ask: to the host and port of the address, with what its link carried
pub record IsAskDial (dial : Dialed) (address : Address) (text : List ℕ) (result : Result Response AskFault) : Type 0 where
  pub host : dial.host ≡ address.host
  pub port : dial.port ≡ address.port
  pub failed : dial.failed ≡ is_dial_fault result
  pub shown : ShowsAsk dial.shown text result

-- one dial more, which is that of the ask; only a dial that failed may leave the dials untold
abbrev pub AsksOnce : Option (List Dialed) → Option (List Dialed) → Address → List ℕ → Result Response AskFault → Type 0
AsksOnce None new address text result = ⊤
AsksOnce (Some ds) None address text result = result ≡ Err DialFault
AsksOnce (Some ds) (Some es) address text result =
    (dial : Dialed) × (es ≡ ds ++ dial ∷ []) × IsAskDial dial address text result
