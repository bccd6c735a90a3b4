use Rattle.std.proofs.Common.{◌≡◌, ℕ, ◌≤◌, List, [], ◌∷◌, drop, arith, refl}
use Rattle.std.proofs.lemmas.Bool.Decides.{nat_tests}
use Rattle.job_values.specs.declared.limits.TheConstants.{BATCH_ITEMS}
use Rattle.job_values.specs.declared.run.CallbackItem.{CallbackItem}
use Rattle.callback_spool.specs.Batches.{fitting}
use Rattle.callback_spool.proofs.batch.fitting_items.Goals as goal

-- nothing goes into a batch that has all its items
fitting-full : (count bytes : ℕ) (items : List CallbackItem) → BATCH_ITEMS ≤ count → fitting count bytes items ≡ 0
fitting-full count bytes [] full = refl
fitting-full count bytes (item ∷ items) full = grind (arith, nat_tests)

pub returns-clause-value : goal.returns-clause-value
returns-clause-value c =
    let none = fitting-full c.loop-count.count c.loop-count.bytes (drop c.loop-count.count c.args.items.now.items) (omega arith) in
    omega arith
