use Rattle.std.proofs.Common.{arith}
use Rattle.std.proofs.lemmas.Result.{err_from_is_err_and}
use Rattle.http_reading.proofs.ChunkedLemmas.{so_far_more, so_far_last, so_far_failed}
use Rattle.http_reading.proofs.chunks.chunked_body.Goals as goal

pub returns-in_err-read-clause-err : goal.returns-in_err-read-clause-err
returns-in_err-read-clause-err g c =
    let p = err_from_is_err_and c.from_residual.result c.from_residual.ensures.1 in
    rw (p.1, p.2) (so_far_failed c.args.link.now c.loop-body.link c.read_chunk.new.link c.args.bytes.now.items c.loop-body.bytes.items c.loop-body.body.items c.args.start c.loop-body.at c.in_err-read.field-0.0
    c.loop-body.invariant.0 c.in_err-read.ensures.err)

pub returns-then-read-clause-ok : goal.returns-then-read-clause-ok
returns-then-read-clause-ok g c =
    so_far_last c.args.link.now c.loop-body.link c.read_chunk.new.link c.args.bytes.now.items c.loop-body.bytes.items c.read_chunk.new.bytes.items c.loop-body.body.items c.read_chunk.new.body.items c.of.result c.args.start c.loop-body.at c.in_ok-read.read
    c.loop-body.invariant.0 c.in_ok-read.ensures.ok c.if-read.true c.of.ensures

pub loop-body-preserved : goal.loop-body-preserved
loop-body-preserved g c =
    let more = so_far_more c.args.link.now c.loop-body.link c.read_chunk.new.link c.args.bytes.now.items c.loop-body.bytes.items c.read_chunk.new.bytes.items c.loop-body.body.items c.read_chunk.new.body.items c.args.start c.loop-body.at c.in_ok-read.read
    c.loop-body.invariant.0 c.in_ok-read.ensures.ok c.if-read.false in
    let few = c.in_ok-read.ensures.ok.few in
    (more.0, omega arith)

pub loop-body-smaller : goal.loop-body-smaller
loop-body-smaller g c =
    let more = so_far_more c.args.link.now c.loop-body.link c.read_chunk.new.link c.args.bytes.now.items c.loop-body.bytes.items c.read_chunk.new.bytes.items c.loop-body.body.items c.read_chunk.new.body.items c.args.start c.loop-body.at c.in_ok-read.read
    c.loop-body.invariant.0 c.in_ok-read.ensures.ok c.if-read.false in
    let few = c.in_ok-read.ensures.ok.few in
    let grows = more.1 in
    omega arith
