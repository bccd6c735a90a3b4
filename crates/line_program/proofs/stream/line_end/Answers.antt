use Rattle.line_program.proofs.CutLemmas.{first_end}
use Rattle.line_program.proofs.stream.line_end.Goals as goal

pub returns : goal.returns
returns c = first_end c.args.bytes.now c.memchr.result c.memchr.ensures
