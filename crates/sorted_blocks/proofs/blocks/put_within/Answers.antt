use Rattle.std.proofs.Common.{◌≡◌, ◌+◌, ◌<◌, ◌≤◌, List, [], length, get_or, ap, ◌∙◌, arith}
use Rattle.std.proofs.lemmas.List.{get_or_default, get_or-set_same, length-set}
use Rattle.sorted_blocks.specs.declared.key.Key.{Key}
use Rattle.sorted_blocks.specs.declared.key_block.TheConstants.{BLOCK}
use Rattle.sorted_blocks.specs.Blocks.{replaced, parted}
use Rattle.sorted_blocks.specs.Keys.{with_key}
use Rattle.sorted_blocks.proofs.BlockLemmas.{set-parted}
use Rattle.sorted_blocks.proofs.OrderLemmas.{length-put}
use Rattle.sorted_blocks.proofs.blocks.put_within.Goals as goal

pub split_block-requires-clause-full : goal.split_block-requires-clause-full
split_block-requires-clause-full c =
    let read : c.index_mut-block.result.now ≡ get_or c.args.blocks.now.items c.args.at [] =
    c.index_mut-block.ensures.value ∙ get_or_default c.args.blocks.now.items c.args.at c.index_mut-block.result.now [] c.requires.within in
    let long : length c.put.new.self ≡ length (with_key c.args.key (get_or c.args.blocks.now.items c.args.at [])) = ap length (c.put.ensures ∙ ap (with_key c.args.key) read) in
    let lengths = length-put c.args.key (get_or c.args.blocks.now.items c.args.at []) in
    let full : length c.put.new.self ≡ BLOCK = omega arith in
    ap length (get_or-set_same c.args.blocks.now.items c.args.at c.put.new.self [] c.requires.within) ∙ full

pub split_block-requires-clause-some : goal.split_block-requires-clause-some
split_block-requires-clause-some c =
    let read : c.index_mut-block.result.now ≡ get_or c.args.blocks.now.items c.args.at [] =
    c.index_mut-block.ensures.value ∙ get_or_default c.args.blocks.now.items c.args.at c.index_mut-block.result.now [] c.requires.within in
    let long : length c.put.new.self ≡ length (with_key c.args.key (get_or c.args.blocks.now.items c.args.at [])) = ap length (c.put.ensures ∙ ap (with_key c.args.key) read) in
    let lengths = length-put c.args.key (get_or c.args.blocks.now.items c.args.at []) in
    c.requires.some (omega arith)

pub split_block-requires-clause-place : goal.split_block-requires-clause-place
split_block-requires-clause-place c =
    let read : c.index_mut-block.result.now ≡ get_or c.args.blocks.now.items c.args.at [] =
    c.index_mut-block.ensures.value ∙ get_or_default c.args.blocks.now.items c.args.at c.index_mut-block.result.now [] c.requires.within in
    let long : length c.put.new.self ≡ length (with_key c.args.key (get_or c.args.blocks.now.items c.args.at [])) = ap length (c.put.ensures ∙ ap (with_key c.args.key) read) in
    let lengths = length-put c.args.key (get_or c.args.blocks.now.items c.args.at []) in
    let some : 0 < length c.args.spare.now.items = c.requires.some (omega arith) in
    let same = length-set c.args.blocks.now.items c.args.at c.put.new.self in
    omega arith

pub returns-else-len-ge-BLOCK-clause-blocks : goal.returns-else-len-ge-BLOCK-clause-blocks
returns-else-len-ge-BLOCK-clause-blocks c =
    let read : c.index_mut-block.result.now ≡ get_or c.args.blocks.now.items c.args.at [] =
    c.index_mut-block.ensures.value ∙ get_or_default c.args.blocks.now.items c.args.at c.index_mut-block.result.now [] c.requires.within in
    let fewer : length c.put.new.self < BLOCK = omega arith in
    set-parted c.args.at c.put.new.self c.args.blocks.now.items c.requires.within fewer
    ∙ ap (λ (block : List Key). replaced c.args.at (parted block) c.args.blocks.now.items) (c.put.ensures ∙ ap (with_key c.args.key) read)
