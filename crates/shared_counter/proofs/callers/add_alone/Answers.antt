use Rattle.shared_counter.specs.Counting.{IsLegal}
use Rattle.shared_counter.proofs.Deals.{one_done}
use Rattle.shared_counter.proofs.callers.add_alone.Goals as goal

pub returns : goal.returns
returns g c = (one_done IsLegal c.args.seat c.add_often.new.seat c.in_ok-entries.entries.items c.requires.fresh c.in_ok-entries.ensures.gains c.parts-parts.ensures.rising, (c.in_ok-entries.ensures.made, tt))
