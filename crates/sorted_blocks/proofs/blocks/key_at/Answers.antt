use Rattle.std.proofs.Common.{◌≡◌, ◌+◌, ◌++◌, List, drop, sym, ap, ◌∙◌}
use Rattle.std.specs.List.{slice_get}
use Rattle.sorted_blocks.specs.declared.key.Key.{Key}
use Rattle.sorted_blocks.specs.Blocks.{joined}
use Rattle.sorted_blocks.proofs.ListLemmas.{get-left, get-right, joined-from}
use Rattle.sorted_blocks.proofs.blocks.key_at.Goals as goal

pub returns-then-left-len : goal.returns-then-left-len
returns-then-left-len c =
    let split = joined-from c.args.blocks.now c.loop-block.block-index c.block-item.result c.loop-block-test.true c.block-item.is in
    c.get.ensures
    ∙ sym (get-left c.block-item.result (joined (drop (c.loop-block.block-index + 1) c.args.blocks.now)) c.loop-block.left (rw (← c.len.ensures) c.if-left-len.true))
    ∙ sym (ap (λ (keys : List Key). slice_get keys c.loop-block.left) split)
    ∙ c.loop-block.invariant

pub loop-block-preserved : goal.loop-block-preserved
loop-block-preserved c =
    let split = joined-from c.args.blocks.now c.loop-block.block-index c.block-item.result c.loop-block-test.true c.block-item.is in
    rw c.len-left.ensures
    (sym (get-right c.block-item.result (joined (drop (c.loop-block.block-index + 1) c.args.blocks.now)) c.loop-block.left (rw (← c.len.ensures) c.if-left-len.false))
    ∙ sym (ap (λ (keys : List Key). slice_get keys c.loop-block.left) split)
    ∙ c.loop-block.invariant)
