use Rattle.std.proofs.Common.{◌≡◌, sym, ap, ◌∙◌, subst}
use Rattle.sorted_blocks.specs.Keys.{key_order, with_key, Rises}
use Rattle.sorted_blocks.proofs.OrderLemmas.{rises-put}
use Rattle.sorted_blocks.proofs.key_block.KeyBlock.put.Goals as goal

pub invariant_of-self : goal.invariant_of-self
invariant_of-self c =
    let is : c.put_at.new.rows.items ≡ with_key c.args.key c.self.inside.keys.items =
    c.put_at.ensures.rows (key_order c.args.key) (rw c.as_slice.ensures.value at c.seat_of-seat.ensures) in
    (rw is (rises-put c.args.key c.self.inside.keys.items c.self.invariant.0), rw c.put_at.ensures.capacity c.self.invariant.1)
