use Rattle.std.proofs.Common.{Ok, Err, sym}
use Rattle.line_grammar.specs.Tables.{row_at}
use Rattle.line_grammar.proofs.Steps.{table_of, row_step}
use Rattle.line_grammar.proofs.reading.Reader.one_of.Goals as goal

pub returns-in-Ok : goal.returns-in-Ok
unfolding row_at
returns-in-Ok g c =
    sym (row_step c.args.rows.now c.loop-word.word-index c.loop-word.least c.loop-word-item.result c.args.self.now.rest.now c.as_bytes.result.now (row_at (table_of c.args.rows.now) c.args.self.now.rest.now) (Ok c.in-Ok.rest.now)
    c.loop-word-test.true (sym c.loop-word-item.is) c.as_bytes.ensures.value c.in-Ok.ensures c.loop-word.invariant)

pub loop-word-preserved : goal.loop-word-preserved
unfolding row_at
loop-word-preserved g c =
    rw c.min-least.ensures
    (row_step c.args.rows.now c.loop-word.word-index c.loop-word.least c.loop-word-item.result c.args.self.now.rest.now c.as_bytes.result.now (row_at (table_of c.args.rows.now) c.args.self.now.rest.now) (Err c.in-Err.left)
    c.loop-word-test.true (sym c.loop-word-item.is) c.as_bytes.ensures.value c.in-Err.ensures c.loop-word.invariant)
