use Rattle.line_grammar.proofs.GrammarLaws.{grammar_reads}
use Rattle.line_grammar.proofs.laws.law_grammar.Goals as goal

pub returns : goal.returns
returns g c = λ grammar. grammar_reads grammar
