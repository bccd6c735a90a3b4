use Rattle.std.proofs.Common.{rules}
use Rattle.http_reading.proofs.CloseLemmas.{first_other, second_other}
use Rattle.http_reading.proofs.close.closing.Goals as goal

pub returns-then-bytes-ne13 : goal.returns-then-bytes-ne13
returns-then-bytes-ne13 c = first_other c.args.bytes.now (search rules) c.if-bytes-ne13.true

pub returns-then-bytes-ne10 : goal.returns-then-bytes-ne10
returns-then-bytes-ne10 c = second_other c.args.bytes.now (search rules) c.if-bytes-ne13.false c.if-bytes-eq1.false c.if-bytes-ne10.true
