use Rattle.std.proofs.Common.{arith, inl, inr}
use Rattle.jiff_core.proofs.SignedLemmas.{signed_arith}
use Rattle.cron_schedule.proofs.zones.stretch_end.Goals as goal

pub returns-then-begin-end : goal.returns-then-begin-end
returns-then-begin-end c =
    let begin = c.next_or_end-begin.ensures in
    let end = c.next_or_end-end.ensures in
    record {
      later = begin.later;
      most = begin.most;
      before_begin = begin.next;
      before_end = λ lt. omega (arith, signed_arith, end.next lt, c.if-begin-end.true);
      reached = elim begin.reached [
        | inl e ↦ inl e
        | inr h ↦ inr (inl h)
      ];
    }

pub returns-else-begin-end : goal.returns-else-begin-end
returns-else-begin-end c =
    let begin = c.next_or_end-begin.ensures in
    let end = c.next_or_end-end.ensures in
    record {
      later = end.later;
      most = end.most;
      before_begin = λ lt. omega (arith, signed_arith, begin.next lt, c.if-begin-end.false);
      before_end = end.next;
      reached = elim end.reached [
        | inl e ↦ inl e
        | inr h ↦ inr (inr h)
      ];
    }
