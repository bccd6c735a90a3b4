use Rattle.line_grammar.specs.Grammar.{Says, reading}
use Rattle.line_grammar.proofs.Algebra.{no_longer}
use Rattle.line_grammar.proofs.GrammarLaws.{grammar_reads}
use Rattle.line_grammar.proofs.laws.law_no_text_begins_another.Goals as goal

pub returns : goal.returns
returns g c = λ grammar v w text more l m. no_longer (Says grammar) (reading grammar) (grammar_reads grammar) v w text more l m
