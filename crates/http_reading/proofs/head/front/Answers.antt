use Rattle.std.proofs.Common.{arith, sym, length-take-le}
use Rattle.std.proofs.lemmas.List.{take_all}
use Rattle.http_reading.proofs.head.front.Goals as goal

pub slice_bounds-result-end : goal.slice_bounds-result-end
slice_bounds-result-end c = sym (length-take-le 16384 c.args.bytes.now (omega arith))

pub returns-then-bytes-le-MOST_LINE : goal.returns-then-bytes-le-MOST_LINE
returns-then-bytes-le-MOST_LINE c = sym (take_all 16384 c.args.bytes.now c.if-bytes-le-MOST_LINE.true)
