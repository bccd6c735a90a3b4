use Rattle.std.proofs.Common.{◌≡◌, [], get_or, ap, ◌∙◌}
use Rattle.std.specs.List.{list_any}
use Rattle.std.specs.Ordering.{is_eq}
use Rattle.std.proofs.lemmas.List.{get_or_default}
use Rattle.sorted_blocks.specs.declared.key.Key.{Key}
use Rattle.sorted_blocks.specs.Keys.{key_order}
use Rattle.sorted_blocks.proofs.SearchLemmas.{has-of_block}
use Rattle.sorted_blocks.proofs.blocks.contains_key.Goals as goal

pub returns : goal.returns
returns c =
    let read : c.index-blocks-block_of.result ≡ get_or c.args.blocks.now c.block_of.result [] =
    c.index-blocks-block_of.is ∙ get_or_default c.args.blocks.now c.block_of.result c.index-blocks-block_of.result [] c.block_of.ensures.within in
    c.contains.ensures
    ∙ ap (list_any (λ (other : Key). is_eq (key_order c.args.key other))) read
    ∙ has-of_block c.args.key c.args.blocks.now c.block_of.result c.block_of.ensures
