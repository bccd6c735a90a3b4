use Rattle.std.proofs.Common.{◌≡◌, drop, ap, ◌∙◌, arith}
use Rattle.std.specs.Result.{is_ok}
use Rattle.sorted_blocks.specs.declared.key_block.TheConstants.{HALF}
use Rattle.sorted_blocks.proofs.ListLemmas.{appended-rest}
use Rattle.sorted_blocks.proofs.OrderLemmas.{rises-drop}
use Rattle.sorted_blocks.proofs.key_block.KeyBlock.move_half.Goals as goal

pub invariant_of-back : goal.invariant_of-back
invariant_of-back c =
    let is : c.extend_from_slice.new.self.items ≡ drop HALF c.self.inside.keys.items =
    appended-rest c.extend_from_slice.new.self.items c.back.inside.keys.items c.deref.result.now HALF (is_ok c.extend_from_slice.result) c.extend_from_slice.ensures.items (ap is_ok c.unwrap.ensures) (c.back.view_is ∙ c.requires.empty)
    ∙ ap (drop HALF) c.deref.ensures.value in
    (rw is (rises-drop HALF c.self.inside.keys.items c.self.invariant.0), omega (arith, c.back.invariant.1, c.extend_from_slice.ensures.capacity))

pub returns-clause-back : goal.returns-clause-back
returns-clause-back c =
    appended-rest c.extend_from_slice.new.self.items c.back.inside.keys.items c.deref.result.now HALF (is_ok c.extend_from_slice.result) c.extend_from_slice.ensures.items (ap is_ok c.unwrap.ensures) (c.back.view_is ∙ c.requires.empty)
    ∙ ap (drop HALF) (c.deref.ensures.value ∙ c.self.view_is)
