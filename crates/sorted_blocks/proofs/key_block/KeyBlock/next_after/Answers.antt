use Rattle.std.proofs.Common.{◌≡◌, ◌+◌, ℕ, suc, List, ◌∙◌, sym, ap, arith}
use Rattle.std.specs.List.{find, slice_get}
use Rattle.std.specs.Ordering.{is_gt}
use Rattle.sorted_blocks.specs.declared.key.Key.{Key}
use Rattle.sorted_blocks.specs.Keys.{key_order}
use Rattle.sorted_blocks.proofs.OrderLemmas.{after-found, after-absent}
use Rattle.sorted_blocks.proofs.SearchLemmas.{copied-item}
use Rattle.sorted_blocks.proofs.key_block.KeyBlock.next_after.Goals as goal

pub returns-in-Ok : goal.returns-in-Ok
returns-in-Ok c =
    let next : suc c.in-Ok.at ≡ c.in-Ok.at + 1 = omega arith in
    c.copied.ensures ∙ copied-item c.self.inside.keys.items (c.in-Ok.at + 1) c.get.result (rw c.as_slice-in-Ok.ensures.value at c.get.ensures.lookup)
    ∙ ap (slice_get c.self.inside.keys.items) (sym next)
    ∙ sym (after-found c.args.key c.self.inside.keys.items c.in-Ok.at (rw c.as_slice.ensures.value at c.in-Ok.ensures))
    ∙ ap (λ (keys : List Key). find (λ other. is_gt (key_order c.args.key other)) keys) c.self.view_is

pub returns-in-Err : goal.returns-in-Err
returns-in-Err c =
    c.copied-in-Err.ensures ∙ copied-item c.self.inside.keys.items c.in-Err.at c.get-in-Err.result (rw c.as_slice-in-Err.ensures.value at c.get-in-Err.ensures.lookup)
    ∙ sym (after-absent c.args.key c.self.inside.keys.items c.in-Err.at (rw c.as_slice.ensures.value at c.in-Err.ensures))
    ∙ ap (λ (keys : List Key). find (λ other. is_gt (key_order c.args.key other)) keys) c.self.view_is
