-- A link over a stream, as contracts see it.
use Rattle.std.specs.Prelude.{ℕ, Bool, Option}
use Rattle.outside_real.specs.declared.tcp.TcpAddress.{TcpAddress}

-- the stream, the host and port that it was dialed to, whether its end was met, and how often it failed
pub record TcpView (S : Type 0) : Type 0 where
  pub stream : S
  pub to : Option TcpAddress
  pub met : Bool
  pub faults : ℕ
