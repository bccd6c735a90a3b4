-- Other numbers of words ask for nothing.
use Rattle.std.proofs.Common.{sym, arith, string_bytes}
use Rattle.replay_program.proofs.WordLemmas.{no_question}
use Rattle.replay_program.proofs.words.next_of.Goals as goal

pub returns-in-len1-clause-ask : goal.returns-in-len1-clause-ask
returns-in-len1-clause-ask c = sym (no_question string_bytes c.args.words.now (λ e. omega (arith, e, c.in-len1)) (λ e. omega (arith, e, c.in-len1)))

pub returns-in-len2-clause-ask : goal.returns-in-len2-clause-ask
returns-in-len2-clause-ask c = sym (no_question string_bytes c.args.words.now (λ e. omega (arith, e, c.in-len2)) (λ e. omega (arith, e, c.in-len2)))

pub returns-in-len3-clause-ask : goal.returns-in-len3-clause-ask
returns-in-len3-clause-ask c = sym (no_question string_bytes c.args.words.now (λ e. omega (arith, e, c.in-len3)) (λ e. omega (arith, e, c.in-len3)))

pub returns-in-len4-clause-ask : goal.returns-in-len4-clause-ask
returns-in-len4-clause-ask c = sym (no_question string_bytes c.args.words.now (λ e. omega (arith, e, c.in-len4)) (λ e. omega (arith, e, c.in-len4)))

pub returns-in-len5-clause-ask : goal.returns-in-len5-clause-ask
returns-in-len5-clause-ask c = sym (no_question string_bytes c.args.words.now (λ e. omega (arith, e, c.in-len5)) (λ e. omega (arith, e, c.in-len5)))

pub returns-in-len8-up-clause-ask : goal.returns-in-len8-up-clause-ask
returns-in-len8-up-clause-ask c = sym (no_question string_bytes c.args.words.now (λ e. omega (arith, e, c.in-len8-up)) (λ e. omega (arith, e, c.in-len8-up)))
