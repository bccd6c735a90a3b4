use Rattle.std.proofs.Common.{◌≡◌, drop}
use Rattle.line_grammar.specs.Automata.{run}
use Rattle.line_grammar.specs.Numbers.{number_step, number_at}
use Rattle.line_grammar.proofs.reading.Reader.digits.Given as goal

abbrev pub invariant-loop-i : goal.invariant-loop-i
invariant-loop-i l = run (number_step l.form) l.stage (drop l.i l.bytes) ≡ number_at l.form l.bytes
