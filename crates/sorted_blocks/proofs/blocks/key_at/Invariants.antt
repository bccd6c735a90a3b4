use Rattle.std.proofs.Common.{◌≡◌, drop}
use Rattle.std.specs.List.{slice_get}
use Rattle.sorted_blocks.specs.Blocks.{joined}
use Rattle.sorted_blocks.proofs.blocks.key_at.Given as goal

abbrev pub invariant-loop-block : goal.invariant-loop-block
invariant-loop-block l = slice_get (joined (drop l.block-index l.blocks)) l.left ≡ slice_get (joined l.blocks) l.place
