-- Requests that stand in the bytes of a link.
use Rattle.std.specs.Prelude.{ℕ, List, Option, None, Some}
use Rattle.http_reading.specs.declared.request.Request.{Request}
use Rattle.http_reading.specs.Requests.{Reads}
use Rattle.node_calls.specs.Exchanges.{ReadsEach}

-- a request stands in these bytes, behind whole requests
pub record StandsAt (bytes : List ℕ) (r : Request) : Type 0 where
  pub before : List Request
  pub middle : List ℕ
  pub rest : List ℕ
  pub reads : ReadsEach bytes before middle
  pub is : Reads middle r rest

abbrev pub StandsIn : Option (List ℕ) → Request → Type 0
StandsIn None r = Unit {0}
StandsIn (Some bytes) r = StandsAt bytes r
