use Rattle.std.proofs.Common.{sym, arith}
use Rattle.outside.proofs.DialLemmas.{hung_up-set, hung_up-past}
use Rattle.outside.proofs.kept_dials.show_dial.Goals as goal

pub returns-then-place-len : goal.returns-then-place-len
returns-then-place-len c = hung_up-set _ _ _ c.index_mut.result.now c.index_mut.ensures.value (omega arith)

pub returns-else-place-len : goal.returns-else-place-len
returns-else-place-len c = sym (hung_up-past _ _ _ (omega arith))
