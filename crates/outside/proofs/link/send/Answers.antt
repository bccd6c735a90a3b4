use Rattle.std.proofs.Common.{◌∙◌, ℕ, arith, length-take, length-drop}
use Rattle.std.proofs.Math.Seq.{take-add}
use Rattle.std.proofs.lemmas.List.{take_rest}
use Rattle.outside.proofs.KnownLemmas.{appends_both}
use Rattle.outside.proofs.link.send.Goals as goal

pub loop-done-preserved : goal.loop-done-preserved
loop-done-preserved g c = record {
  within = omega (arith, c.in_ok-count.ensures.bound, length-take {A = ℕ}, length-drop {A = ℕ});
  written = rw take-add (appends_both _ _ _ _ _ c.loop-done.invariant.written (rw take_rest at c.in_ok-count.ensures.bytes));
  other = c.in_ok-count.ensures.other ∙ c.loop-done.invariant.other;
  seen = c.in_ok-count.ensures.seen ∙ c.loop-done.invariant.seen;
  end = c.in_ok-count.ensures.end ∙ c.loop-done.invariant.end;
  place = c.in_ok-count.ensures.place ∙ c.loop-done.invariant.place;
  later = omega arith;
}
