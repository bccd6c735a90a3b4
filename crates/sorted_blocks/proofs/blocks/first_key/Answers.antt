use Rattle.std.proofs.Common.{◌∙◌}
use Rattle.sorted_blocks.proofs.SearchLemmas.{first-of_block}
use Rattle.sorted_blocks.proofs.blocks.first_key.Goals as goal

pub returns-in-Some : goal.returns-in-Some
returns-in-Some c =
    c.first-in-Some.ensures ∙ first-of_block c.args.blocks.now c.in-Some.block.now c.requires c.in-Some.ensures.value
