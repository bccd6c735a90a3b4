use Rattle.std.proofs.Common.{subst, sym}
use Rattle.script_text.specs.Lines.{IsLine}
use Rattle.script_text.proofs.writing.write_line.Goals as goal

pub returns-clause-line : goal.returns-clause-line
returns-clause-line c = subst (IsLine c.args.event.now) (sym c.in_ok-bytes.ensures.spelled) (c.law_one_line.ensures.line c.args.event.now c.in_ok-bytes.ensures.within)
