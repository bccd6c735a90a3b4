use Rattle.replay_program.proofs.LineEnds.{line_end}
use Rattle.replay_program.proofs.laws.law_lines_end.Goals as goal

pub returns : goal.returns
returns c = line_end c.law_one_line.ensures
