use Rattle.std.proofs.Common.{map, take}
use Rattle.httparse.specs.Spans.{header_bytes}
use Rattle.http_reading.specs.Plans.{values_of}
use Rattle.http_reading.specs.Found.{IsFound}
use Rattle.http_reading.proofs.fields.values_of.Given as goal

-- the fields so far are counted
abbrev pub invariant-loop-header : goal.invariant-loop-header
invariant-loop-header l = IsFound l.bytes l.found (values_of l.name (map (header_bytes l.bytes) (take l.header-index l.headers)))
