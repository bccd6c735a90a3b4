-- Other numbers of words are no command.
use Rattle.std.proofs.Common.{sym, arith, string_bytes}
use Rattle.replay_program.proofs.WordLemmas.{no_command}
use Rattle.replay_program.proofs.words.settings_of.Goals as goal

pub returns-in-len2 : goal.returns-in-len2
returns-in-len2 c = sym (no_command string_bytes c.args.words.now (λ e. omega (arith, e, c.in-len2)) (λ e. omega (arith, e, c.in-len2)))

pub returns-in-len3 : goal.returns-in-len3
returns-in-len3 c = sym (no_command string_bytes c.args.words.now (λ e. omega (arith, e, c.in-len3)) (λ e. omega (arith, e, c.in-len3)))

pub returns-in-len5-up : goal.returns-in-len5-up
returns-in-len5-up c = sym (no_command string_bytes c.args.words.now (λ e. omega (arith, e, c.in-len5-up)) (λ e. omega (arith, e, c.in-len5-up)))
