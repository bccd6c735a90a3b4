use Rattle.std.proofs.Common.{◌≡◌, ◌-◌, ◌<◌, List, length, get_or, ◌∙◌, sym, ap}
use Rattle.std.specs.List.{list_all}
use Rattle.std.specs.Ordering.{is_lt}
use Rattle.sorted_blocks.specs.declared.key.Key.{Key}
use Rattle.sorted_blocks.specs.Keys.{key_order}
use Rattle.sorted_blocks.proofs.OrderLemmas.{below-last}
use Rattle.sorted_blocks.proofs.key_block.KeyBlock.is_below.Goals as goal

pub returns-in-Some : goal.returns-in-Some
returns-in-Some c =
    let read = c.in-Some.ensures.item in
    let item : c.in-Some.last.now ≡ get_or c.self.inside.keys.items (length c.self.inside.keys.items - 1) c.in-Some.last.now =
    rw c.as_slice.ensures.value at read.1 in
    let some : 0 < length c.self.inside.keys.items = rw c.as_slice.ensures.value at read.3.0 in
    c.is_lt.ensures ∙ ap is_lt c.compare.ensures ∙ sym (below-last c.args.key c.self.inside.keys.items c.in-Some.last.now c.self.invariant.0 some item)
    ∙ ap (λ (keys : List Key). list_all (λ other. is_lt (key_order c.args.key other)) keys) c.self.view_is
