use Rattle.script_text.proofs.Codes.{code_fits}
use Rattle.script_text.proofs.writing.put_code.Goals as goal

pub returns-clause-within : goal.returns-clause-within
returns-clause-within c = code_fits c.args.code c.ranges.code
