use Rattle.std.proofs.Common.{length, ap, sym}
use Rattle.line_program.proofs.CutLemmas.{content_open}
use Rattle.line_program.proofs.stream.take_tail.Goals as goal

pub take_line-requires-clause-bytes : goal.take_line-requires-clause-bytes
take_line-requires-clause-bytes g c = ap length (sym (content_open c.args.pending.now c.requires))
