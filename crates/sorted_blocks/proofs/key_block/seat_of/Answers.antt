use Rattle.std.proofs.Common.{rules}
use Rattle.std.proofs.lemmas.Fn.{always_returns_same}
use Rattle.rising_rows.proofs.SeatLemmas.{seat-searched}
use Rattle.sorted_blocks.specs.Keys.{key_order}
use Rattle.sorted_blocks.proofs.OrderLemmas.{split-rising}
use Rattle.sorted_blocks.proofs.key_block.seat_of.Goals as goal

pub returns : goal.returns
returns c =
    seat-searched (key_order c.args.key) c.args.keys.now c.binary_search_by.result (split-rising c.args.key c.args.keys.now c.requires) c.binary_search_by.ensures.bound
    (c.binary_search_by.ensures.position (key_order c.args.key) (always_returns_same _ _ _ (λ a r f called. search rules)))
