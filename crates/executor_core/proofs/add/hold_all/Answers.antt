use Rattle.std.proofs.Common.{◌≡◌, ◌∷◌, drop, ◌+◌, refl, sym, ap, ◌∙◌, arith}
use Rattle.std.proofs.lemmas.List.{drop_more}
use Rattle.job_values.specs.declared.run.CallbackItem.{CallbackItem}
use Rattle.executor_history.specs.Past.{put_id}
use Rattle.executor_core.proofs.Held.{left_first, left_next}
use Rattle.executor_core.proofs.add.hold_all.Goals as goal

pub loop-item-init : goal.loop-item-init
loop-item-init c = (refl, rw c.requires.none (left_first c.args.items.now c.requires.different))

pub loop-item-preserved : goal.loop-item-preserved
loop-item-preserved c =
    let item = c.item-item.result in
    let rest = drop (c.loop-item.item-index + 1) c.args.items.now in
    let cons : drop c.loop-item.item-index c.args.items.now ≡ item ∷ rest = drop_more c.args.items.now c.loop-item.item-index item (omega arith) ∙ ap (λ (x : CallbackItem). x ∷ rest) (sym c.item-item.is) in
    let ids : c.put.new.self.ids ≡ put_id item.log c.loop-item.held.ids = c.put.ensures ∙ ap (put_id item.log) c.in_ok-reserve.ensures.ids in
    rw ids (rw cons at c.loop-item.invariant.0, left_next item rest c.loop-item.held.ids (rw cons at c.loop-item.invariant.1))
