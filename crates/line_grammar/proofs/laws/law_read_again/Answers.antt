use Rattle.line_grammar.proofs.Spellings.{read_again}
use Rattle.line_grammar.proofs.laws.law_read_again.Goals as goal

pub returns : goal.returns
returns c = read_again
