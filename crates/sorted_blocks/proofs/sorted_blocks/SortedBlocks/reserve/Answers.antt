use Rattle.std.proofs.Common.{◌≡◌, ℕ, ◌+◌, ◌-◌, ◌≤◌, ◌^◌, ◌/◌, List, min, length, ap, ◌∙◌, arith}
use Rattle.std.proofs.lemmas.Result.{on_ok_weaker}
use Rattle.sorted_blocks.specs.declared.key.Key.{Key}
use Rattle.sorted_blocks.specs.declared.key_block.TheConstants.{HALF}
use Rattle.sorted_blocks.proofs.BlockLemmas.{reserve-room}
use Rattle.sorted_blocks.proofs.sorted_blocks.SortedBlocks.reserve.Goals as goal

pub returns-clause-ok : goal.returns-clause-ok
returns-clause-ok c =
    let blocks : List (List Key) = c.fill_spare.new.blocks.items in
    let most : ℕ = c.saturating_add-most.result in
    let same : length blocks ≡ length c.self.inside.blocks.items = ap length c.fill_spare.ensures.same in
    let count : c.len.result ≡ length blocks = omega (arith, c.len.ensures, c.self.inside.blocks.ok.0) in
    let is : most ≡ min (length blocks + (c.args.more / HALF + 1)) (2 ^ 64 - 1) =
    c.saturating_add-most.ensures ∙ ap (λ (n : ℕ). min (n + (c.args.more / HALF + 1)) (2 ^ 64 - 1)) count in
    let wanted : c.min.result ≡ min c.args.more most = c.min.ensures in
    on_ok_weaker c.fill_spare.result
    (λ enough. reserve-room blocks (length c.fill_spare.new.spare.items) c.args.more most (2 ^ 64 - 1) c.fill_spare.ensures.sound.filled is (omega arith) (omega arith))
    c.fill_spare.ensures.ok
