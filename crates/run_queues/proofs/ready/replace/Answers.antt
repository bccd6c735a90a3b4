use Rattle.std.proofs.Common.{not, ◌==◌, length, ap, arith}
use Rattle.run_queues.specs.declared.front.Front.{Front}
use Rattle.rising_rows.proofs.RowLemmas.{rises-filter}
use Rattle.run_queues.proofs.ready.replace.Goals as goal

pub put_new-requires-clause-rises : goal.put_new-requires-clause-rises
put_new-requires-clause-rises c = rw c.take_front.ensures.items (rises-filter (λ (f : Front). f.number) (λ (f : Front). not (c.args.taken.number == f.number)) 0 c.args.fronts.now.items c.requires.rises)

pub put_new-requires-clause-room : goal.put_new-requires-clause-room
put_new-requires-clause-room c = omega (arith, ap length c.take_front.ensures.items, c.take_front.ensures.capacity, c.requires.room)
