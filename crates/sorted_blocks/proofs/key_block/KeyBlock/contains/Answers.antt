use Rattle.std.proofs.Common.{◌∙◌}
use Rattle.sorted_blocks.proofs.OrderLemmas.{any-seat}
use Rattle.sorted_blocks.proofs.key_block.KeyBlock.contains.Goals as goal

pub returns : goal.returns
returns c = c.is_ok.ensures.value ∙ any-seat c.args.key c.args.self.now c.seat_of.result (rw (c.as_slice.ensures.value, c.self.view_is) at c.seat_of.ensures)
