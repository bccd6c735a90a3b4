use Rattle.std.proofs.Common.{rules}
use Rattle.std.proofs.lemmas.Fn.{always_returns_same}
use Rattle.sorted_blocks.proofs.SearchLemmas.{is_under, parted-blocks, block-found, block-last}
use Rattle.sorted_blocks.proofs.blocks.block_of.Goals as goal

pub returns-then-at-blocks : goal.returns-then-at-blocks
returns-then-at-blocks c =
    block-found c.args.key c.args.blocks.now c.partition_point-at.result c.requires.rising
    (c.partition_point-at.ensures.partitioned (is_under c.args.key) (always_returns_same _ _ _ (λ a r f called. search rules)) (parted-blocks c.args.key c.args.blocks.now c.requires.filled c.requires.rising))
    c.if-at-blocks.true

pub returns-else-at-blocks : goal.returns-else-at-blocks
returns-else-at-blocks c =
    block-last c.args.key c.args.blocks.now c.partition_point-at.result
    (c.partition_point-at.ensures.partitioned (is_under c.args.key) (always_returns_same _ _ _ (λ a r f called. search rules)) (parted-blocks c.args.key c.args.blocks.now c.requires.filled c.requires.rising))
    c.requires.some c.partition_point-at.ensures.bound c.if-at-blocks.false
