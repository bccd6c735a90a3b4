use Rattle.std.proofs.Common.{◌≡◌, ℕ, suc, ◌+◌, ◌-◌, List, [], Option, Some, None, length, get_or, take, drop, sym, ap, ◌∙◌, arith}
use Rattle.std.specs.List.{find, slice_get}
use Rattle.std.specs.Option.{option_or}
use Rattle.std.specs.Ordering.{is_gt}
use Rattle.std.proofs.lemmas.List.{get_or_default, take_rest}
use Rattle.sorted_blocks.specs.declared.key.Key.{Key}
use Rattle.sorted_blocks.specs.Blocks.{joined}
use Rattle.sorted_blocks.specs.Keys.{key_order}
use Rattle.sorted_blocks.proofs.SearchLemmas.{after-of_block}
use Rattle.sorted_blocks.proofs.blocks.next_key.Goals as goal

pub returns-in-Some : goal.returns-in-Some
returns-in-Some c =
    let read : c.index-blocks-at.result ≡ get_or c.args.blocks.now c.block_of-at.result [] =
    c.index-blocks-at.is ∙ get_or_default c.args.blocks.now c.block_of-at.result c.index-blocks-at.result [] c.block_of-at.ensures.within in
    let found : Some c.in-Some.other ≡ find (λ (other : Key). is_gt (key_order c.args.key other)) (get_or c.args.blocks.now c.block_of-at.result []) =
    sym c.in-Some.is ∙ c.next_after.ensures ∙ ap (find (λ (other : Key). is_gt (key_order c.args.key other))) read in
    sym (after-of_block c.args.key c.args.blocks.now c.block_of-at.result c.block_of-at.ensures
    ∙ ap (λ (o : Option Key). option_or o (slice_get (joined (drop (suc c.block_of-at.result) c.args.blocks.now)) 0)) (sym found))

pub returns-in-None : goal.returns-in-None
returns-in-None c =
    let read : c.index-blocks-at.result ≡ get_or c.args.blocks.now c.block_of-at.result [] =
    c.index-blocks-at.is ∙ get_or_default c.args.blocks.now c.block_of-at.result c.index-blocks-at.result [] c.block_of-at.ensures.within in
    let none : find (λ (other : Key). is_gt (key_order c.args.key other)) (get_or c.args.blocks.now c.block_of-at.result []) ≡ None =
    sym (c.next_after.ensures ∙ ap (find (λ (other : Key). is_gt (key_order c.args.key other))) read) ∙ c.in-None.is in
    let next : c.block_of-at.result + 1 ≡ suc c.block_of-at.result = omega arith in
    let rest : take (length c.args.blocks.now - (c.block_of-at.result + 1)) (drop (c.block_of-at.result + 1) c.args.blocks.now) ≡ drop (suc c.block_of-at.result) c.args.blocks.now =
    take_rest c.args.blocks.now (c.block_of-at.result + 1) ∙ ap (λ (n : ℕ). drop n c.args.blocks.now) next in
    c.first_key.ensures
    ∙ ap (λ (bs : List (List Key)). slice_get (joined bs) 0) rest
    ∙ sym (after-of_block c.args.key c.args.blocks.now c.block_of-at.result c.block_of-at.ensures
    ∙ ap (λ (o : Option Key). option_or o (slice_get (joined (drop (suc c.block_of-at.result) c.args.blocks.now)) 0)) none)
