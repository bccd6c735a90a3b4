use Rattle.std.proofs.Common.{◌≡◌, ◌-◌, suc, arith}
use Rattle.std.proofs.lemmas.Result.{err_from_is_err_and}
use Rattle.line_grammar.specs.Lists.{numbers_at}
use Rattle.line_grammar.proofs.Loop.{numbers_go_on, numbers_break, numbers_done}
use Rattle.line_grammar.proofs.reading.Reader.numbers.Goals as goal

pub returns-in_err-number : goal.returns-in_err-number
returns-in_err-number c =
    let p = err_from_is_err_and c.from_residual.result c.from_residual.ensures.1 in
    let one_less : c.loop-others.others ≡ suc (c.loop-others.others - 1) = omega arith in
    rw (p.1, p.2) (numbers_break c.in_err-number.field-0.0 c.loop-others.numbers.items c.args.form c.loop-others.others (c.loop-others.others - 1) c.loop-others.self.rest.now (numbers_at c.args.form c.args.count c.args.self.now.rest.now)
    one_less (rw c.before-in-loop-others.ensures at c.in_err-number.ensures.taken) c.loop-others.invariant)

pub loop-others-preserved : goal.loop-others-preserved
loop-others-preserved c =
    let one_less : c.loop-others.others ≡ suc (c.loop-others.others - 1) = omega arith in
    rw c.in_ok-push.ensures.items (numbers_go_on c.loop-others.numbers.items c.args.form c.loop-others.others (c.loop-others.others - 1) c.loop-others.self.rest.now c.in_ok-number.number c.number.new.self.rest.now (numbers_at c.args.form c.args.count c.args.self.now.rest.now)
    one_less (rw c.before-in-loop-others.ensures at c.in_ok-number.ensures.taken) c.loop-others.invariant)

pub returns : goal.returns
returns c = numbers_done c.loop-others.numbers.items c.args.form c.loop-others.others c.loop-others.self.rest.now (numbers_at c.args.form c.args.count c.args.self.now.rest.now) c.loop-others-test.false c.loop-others.invariant
