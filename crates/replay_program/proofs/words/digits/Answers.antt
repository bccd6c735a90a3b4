-- The digits that are left don't make the number smaller.
use Rattle.std.proofs.Common.{sym, ◌∙◌, ap, drop, option_and_then}
use Rattle.replay_program.specs.Words.{in_bounds}
use Rattle.replay_program.proofs.WordLemmas.{above_none}
use Rattle.replay_program.proofs.words.digits.Goals as goal

pub returns-then-value-greatest : goal.returns-then-value-greatest
returns-then-value-greatest c =
    sym (ap (option_and_then (in_bounds 0 c.args.greatest)) (sym c.loop-byte.invariant.1)
    ∙ above_none (drop c.loop-byte.byte-index c.args.text.now) c.loop-byte.value c.args.greatest c.if-value-greatest.true)
