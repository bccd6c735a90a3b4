use Rattle.std.proofs.Common.{subst, sym}
use Rattle.httparse.specs.Spans.{header_bytes}
use Rattle.http_reading.specs.Found.{IsFound}
use Rattle.http_reading.proofs.FieldLemmas.{values_more}
use Rattle.http_reading.proofs.fields.values_of.Goals as goal

pub loop-header-preserved : goal.loop-header-preserved
loop-header-preserved c =
    subst (IsFound c.args.bytes.now c.with-found.result)
    (sym (values_more (header_bytes c.args.bytes.now) c.args.name.now c.args.headers.now c.loop-header.header-index _ c.loop-header-test.true))
    (c.with-found.ensures _ c.loop-header.invariant)
