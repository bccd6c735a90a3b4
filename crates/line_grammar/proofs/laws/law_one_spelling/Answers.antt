use Rattle.line_grammar.proofs.Spellings.{one_spelling}
use Rattle.line_grammar.proofs.laws.law_one_spelling.Goals as goal

pub returns : goal.returns
returns c = one_spelling
