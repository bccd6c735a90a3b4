use Rattle.std.proofs.Common.{◌≡◌, ◌-◌, suc, arith}
use Rattle.std.proofs.lemmas.Result.{err_from_is_err_and}
use Rattle.line_grammar.specs.Texts.{text_form}
use Rattle.line_grammar.specs.Lists.{texts_at}
use Rattle.line_grammar.proofs.Loop.{texts_go_on, texts_break, texts_done}
use Rattle.line_grammar.proofs.reading.Reader.texts.Goals as goal

pub returns-in_err-text : goal.returns-in_err-text
returns-in_err-text g c =
    let p = err_from_is_err_and c.from_residual.result c.from_residual.ensures.1 in
    let one_less : c.loop-others.others ≡ suc (c.loop-others.others - 1) = omega arith in
    rw (p.1, p.2) (texts_break c.in_err-text.field-0.0 c.loop-others.texts.items (text_form g.row.LEAST g.row.MOST c.args.end) c.loop-others.others (c.loop-others.others - 1) c.loop-others.self.rest.now (texts_at (text_form g.row.LEAST g.row.MOST c.args.end) c.args.count c.args.self.now.rest.now)
    one_less (rw c.before-in-loop-others.ensures at c.in_err-text.ensures) c.loop-others.invariant)

pub loop-others-preserved : goal.loop-others-preserved
loop-others-preserved g c =
    let one_less : c.loop-others.others ≡ suc (c.loop-others.others - 1) = omega arith in
    rw c.in_ok-push.ensures.items (texts_go_on c.loop-others.texts.items (text_form g.row.LEAST g.row.MOST c.args.end) c.loop-others.others (c.loop-others.others - 1) c.loop-others.self.rest.now c.in_ok-text.text c.bounded.new.self.rest.now (texts_at (text_form g.row.LEAST g.row.MOST c.args.end) c.args.count c.args.self.now.rest.now)
    one_less (rw c.before-in-loop-others.ensures at c.in_ok-text.ensures) c.loop-others.invariant)

pub returns : goal.returns
returns g c = texts_done c.loop-others.texts.items (text_form g.row.LEAST g.row.MOST c.args.end) c.loop-others.others c.loop-others.self.rest.now (texts_at (text_form g.row.LEAST g.row.MOST c.args.end) c.args.count c.args.self.now.rest.now) c.loop-others-test.false c.loop-others.invariant
