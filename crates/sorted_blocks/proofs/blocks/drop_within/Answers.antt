use Rattle.std.proofs.Common.{◌≡◌, ◌<◌, List, [], length, get_or, ap, ◌∙◌, arith}
use Rattle.std.proofs.lemmas.List.{get_or_default}
use Rattle.sorted_blocks.specs.declared.key.Key.{Key}
use Rattle.sorted_blocks.specs.Blocks.{replaced, unless_empty}
use Rattle.sorted_blocks.specs.Keys.{without_key}
use Rattle.sorted_blocks.proofs.BlockLemmas.{set-kept}
use Rattle.sorted_blocks.proofs.blocks.drop_within.Goals as goal

pub returns-else-len-eq0-clause-blocks : goal.returns-else-len-eq0-clause-blocks
returns-else-len-eq0-clause-blocks c =
    let read : c.index_mut-block.result.now ≡ get_or c.args.blocks.now.items c.args.at [] =
    c.index_mut-block.ensures.value ∙ get_or_default c.args.blocks.now.items c.args.at c.index_mut-block.result.now [] c.requires.within in
    let is : c.drop_key.new.self ≡ without_key c.args.key (get_or c.args.blocks.now.items c.args.at []) = c.drop_key.ensures ∙ ap (without_key c.args.key) read in
    let some : 0 < length c.drop_key.new.self = omega arith in
    set-kept c.args.at c.drop_key.new.self c.args.blocks.now.items c.requires.within some
    ∙ ap (λ (block : List Key). replaced c.args.at (unless_empty block) c.args.blocks.now.items) is
