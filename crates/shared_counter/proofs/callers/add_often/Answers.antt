use Rattle.std.proofs.Common.{◌∙◌, subst, sym}
use Rattle.turn_lock.specs.Gains.{Gains}
use Rattle.turn_lock.proofs.Gains.{gains_then}
use Rattle.shared_counter.specs.Counting.{IsLegal}
use Rattle.shared_counter.proofs.Deals.{made_more}
use Rattle.shared_counter.proofs.callers.add_often.Goals as goal

pub loop-i-preserved : goal.loop-i-preserved
loop-i-preserved g c =
    let i = c.loop-i.invariant in
    let one = c.in_ok-add_once.ensures.done in
    record {
      gains = subst (λ es. Gains IsLegal c.args.seat.now es c.add_once.new.seat) (sym one.entries) (gains_then IsLegal c.args.seat.now c.loop-i.seat c.add_once.new.seat c.loop-i.entries.items one.es i.gains one.gains);
      here = one.gains.same.shared ∙ i.here;
      made = made_more c.args.by c.loop-i._i c.loop-i.seat c.add_once.new.seat c.loop-i.entries.items c.add_once.new.entries.items one i.made;
    }
