use Rattle.std.proofs.Common.{◌≡◌, map, take, false}
use Rattle.httparse.specs.Spans.{header_bytes}
use Rattle.http_reading.specs.Plans.{has_close}
use Rattle.http_reading.proofs.fields.has_close.Given as goal

-- no field so far closes
abbrev pub invariant-loop-header : goal.invariant-loop-header
invariant-loop-header l = has_close (map (header_bytes l.bytes) (take l.header-index l.headers)) ≡ false
