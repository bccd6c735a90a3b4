use Rattle.std.proofs.Common.{◌+◌, sym, ◌∙◌}
use Rattle.httparse.specs.Spans.{header_bytes}
use Rattle.http_reading.proofs.FieldLemmas.{close_more, close_found}
use Rattle.http_reading.proofs.fields.has_close.Goals as goal

pub loop-header-preserved : goal.loop-header-preserved
loop-header-preserved c =
    close_more (header_bytes c.args.bytes.now) c.args.headers.now c.loop-header.header-index _ c.loop-header-test.true c.loop-header.invariant
    ∙ sym c.if-says_close.ensures

pub returns-then-says_close : goal.returns-then-says_close
returns-then-says_close c =
    sym (close_found (header_bytes c.args.bytes.now) c.args.headers.now (c.loop-header.header-index + 1)
    (close_more (header_bytes c.args.bytes.now) c.args.headers.now c.loop-header.header-index _ c.loop-header-test.true c.loop-header.invariant
    ∙ sym c.if-says_close.ensures))
