use Rattle.std.proofs.Common.{Ok, Err, sym}
use Rattle.line_grammar.specs.Choices.{words_at}
use Rattle.line_grammar.proofs.Steps.{texts_of, choice_step}
use Rattle.line_grammar.proofs.reading.Reader.choice.Goals as goal

pub returns-in-Ok : goal.returns-in-Ok
unfolding words_at
returns-in-Ok c =
    sym (choice_step c.args.words.now c.loop-i.i c.loop-i.least _ c.args.self.now.rest.now c.as_bytes.result.now (words_at (texts_of c.args.words.now) c.args.self.now.rest.now) (Ok c.in-Ok.rest.now)
    c.loop-i-test.true c.as_bytes.ensures.value c.in-Ok.ensures c.loop-i.invariant)

pub loop-i-preserved : goal.loop-i-preserved
unfolding words_at
loop-i-preserved c =
    rw c.min-least.ensures
    (choice_step c.args.words.now c.loop-i.i c.loop-i.least _ c.args.self.now.rest.now c.as_bytes.result.now (words_at (texts_of c.args.words.now) c.args.self.now.rest.now) (Err c.in-Err.left)
    c.loop-i-test.true c.as_bytes.ensures.value c.in-Err.ensures c.loop-i.invariant)
