use Rattle.std.proofs.Common.{◌≡◌}
use Rattle.line_grammar.specs.Texts.{text_form}
use Rattle.line_grammar.specs.Lists.{texts_at}
use Rattle.line_grammar.proofs.Loop.{with_front}
use Rattle.line_grammar.proofs.reading.Reader.texts.Given as goal

abbrev pub invariant-loop-others : goal.invariant-loop-others
invariant-loop-others g l = with_front l.texts.items (texts_at (text_form g.row.LEAST g.row.MOST l.end) l.others l.self.rest.now) ≡ texts_at (text_form g.row.LEAST g.row.MOST l.end) l.count l.fn.self.rest.now

abbrev pub decreases-loop-others : goal.decreases-loop-others
decreases-loop-others g l = l.others
