use Rattle.outside.proofs.KnownLemmas.{appends_both}
use Rattle.std.proofs.Common.{ℕ, arith}
use Rattle.std.proofs.Math.Seq.{take-add}
use Rattle.std.proofs.lemmas.List.{take_rest}
use Rattle.std.proofs.Common.{length-take, length-drop}
use Rattle.outside.proofs.sink.write_whole.Goals as goal

pub loop-done-preserved : goal.loop-done-preserved
loop-done-preserved g c = (
  omega (arith, c.in_ok-count.ensures.bound, length-take {A = ℕ}, length-drop {A = ℕ}),
  rw take-add (appends_both _ _ _ _ _ c.loop-done.invariant.1 (rw take_rest at c.in_ok-count.ensures.bytes)),
  omega arith,
)
