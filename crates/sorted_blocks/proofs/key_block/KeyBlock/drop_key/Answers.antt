use Rattle.std.proofs.Common.{◌≡◌, sym, ap, ◌∙◌, subst}
use Rattle.sorted_blocks.specs.Keys.{key_order, without_key, Rises}
use Rattle.sorted_blocks.proofs.OrderLemmas.{rises-without}
use Rattle.sorted_blocks.proofs.key_block.KeyBlock.drop_key.Goals as goal

pub invariant_of-self : goal.invariant_of-self
invariant_of-self c =
    let is : c.take_at.new.rows.items ≡ without_key c.args.key c.self.inside.keys.items =
    c.take_at.ensures.rows (key_order c.args.key) (rw c.as_slice.ensures.value at c.seat_of-seat.ensures) in
    (rw is (rises-without c.args.key c.self.inside.keys.items c.self.invariant.0), rw c.take_at.ensures.capacity c.self.invariant.1)

pub returns : goal.returns
returns c =
    c.take_at.ensures.rows (key_order c.args.key) (rw c.as_slice.ensures.value at c.seat_of-seat.ensures) ∙ ap (without_key c.args.key) c.self.view_is
