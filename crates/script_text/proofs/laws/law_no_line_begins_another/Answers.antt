use Rattle.script_text.specs.Lines.{line}
use Rattle.script_text.proofs.laws.law_no_line_begins_another.Goals as goal

pub returns : goal.returns
returns c = λ event other bytes more h k. c.law_no_text_begins_another.ensures line event other bytes more h k
