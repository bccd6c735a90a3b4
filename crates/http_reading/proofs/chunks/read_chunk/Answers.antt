use Rattle.std.proofs.Common.{arith, length, ◌+◌, ◌≤◌}
use Rattle.std.proofs.lemmas.Result.{err_from_is_err_and}
use Rattle.http_reading.specs.ChunkReads.{ChunkFault}
use Rattle.http_reading.specs.declared.fault.HttpFault.TheVariants.{NoMemory}
use Rattle.http_reading.proofs.DrawLemmas.{fails_as, fails_here, draws_more}
use Rattle.http_reading.proofs.ChunkLemmas.{failed_close, chunk_read}
use Rattle.http_reading.proofs.chunks.read_chunk.Goals as goal

pub returns-in_err-line-clause-err : goal.returns-in_err-line-clause-err
returns-in_err-line-clause-err g c =
    let p = err_from_is_err_and c.from_residual.result c.from_residual.ensures.1 in
    rw (p.1, p.2) (fails_as (ChunkFault c.args.at (length c.args.body.now.items)) c.in_err-line.ensures.err (λ holds f is. is (length c.args.body.now.items)))

pub returns-in_err-read_close-clause-err : goal.returns-in_err-read_close-clause-err
returns-in_err-read_close-clause-err g c =
    let p = err_from_is_err_and c.from_residual-in_err-read_close.result c.from_residual-in_err-read_close.ensures.1 in
    let few : length c.args.body.now.items + c.in_ok-line.line.size ≤ 1048576 = omega arith in
    rw (p.1, p.2) (failed_close c.args.link.now c.read_size.new.link c.read_close.new.link c.args.bytes.now.items c.read_size.new.bytes.items c.args.at (length c.args.body.now.items) c.in_ok-line.line c.in_err-read_close.field-0.0
    c.requires.at few c.in_ok-line.ensures.ok c.in_err-read_close.ensures.err)

pub returns-in-Ok-clause-ok : goal.returns-in-Ok-clause-ok
returns-in-Ok-clause-ok g c =
    let few : length c.args.body.now.items + c.in_ok-line.line.size ≤ 1048576 = omega arith in
    chunk_read c.args.link.now c.read_size.new.link c.read_close.new.link c.args.bytes.now.items c.read_size.new.bytes.items c.read_close.new.bytes.items c.args.body.now.items c.extend_from_slice.new.self.items c.deref.result.now c.args.at c.in_ok-line.line
    c.requires.at few c.in_ok-line.ensures.ok c.in_ok-read_close.ensures.ok c.deref.ensures.value c.in-Ok.ensures.items

pub returns-in-Err-clause-err : goal.returns-in-Err-clause-err
returns-in-Err-clause-err g c =
    fails_here (ChunkFault c.args.at (length c.args.body.now.items)) NoMemory (draws_more c.in_ok-line.ensures.ok.draws c.in_ok-read_close.ensures.ok.draws)
    (λ e. let never : ⊥ = cc in never) tt
