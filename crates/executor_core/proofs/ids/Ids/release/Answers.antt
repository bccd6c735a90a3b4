use Rattle.std.proofs.Common.{◌≡◌, ◌==◌, ℕ, Bool, true, false, if◌then◌else◌, refl, ap, ◌∙◌, arith}
use Rattle.std.proofs.lemmas.Bool.Decides.{nat_tests}
use Rattle.executor_history.specs.Past.{is_among}
use Rattle.executor_core.proofs.IdKeys.{keys-out}
use Rattle.executor_core.proofs.ids.Ids.release.Goals as goal

turned : (m n : ℕ) (b : Bool) → (n == m) ≡ b → (m == n) ≡ b
turned m n true e = grind (arith, nat_tests)
turned m n false e = grind (arith, nat_tests)

pub returns : goal.returns
returns c =
    let keys = c.self.inside.ids.keys in
    let out : (k : ℕ) → is_among k c.swap_remove-was_there.new.self.keys ≡ (if k == c.args.id then false else is_among k keys) =
    λ k. c.swap_remove-was_there.ensures.updates.0 k ∙ ap (λ (b : Bool). if b then false else is_among k keys) (ap (λ id. id == k) c.get.ensures.value ∙ turned c.args.id k (k == c.args.id) refl) in
    rw (← c.self.view_is) (keys-out c.args.id keys c.swap_remove-was_there.new.self.keys c.self.invariant c.swap_remove-was_there.ensures.unique out)
