-- The steps as calls ask for them: at a table with one slot, and a seat with what it carries.
use Rattle.std.proofs.Common.{◌≡◌, ℕ, ◌+◌, ◌%◌, ◌<◌, List, [], ◌∷◌, Option, Some, None, true, false, sym, ◌∙◌, subst}
use Rattle.atomic_table.specs.Table.{Me, Allows}
use Rattle.turn_lock.specs.declared.view.View.{View}
use Rattle.turn_lock.specs.declared.view.Held.{Held}
use Rattle.turn_lock.specs.Turns.{Kept}
use Rattle.turn_lock.specs.Steps.{Drew, Looked, Counted, Served, Settled, HoldsMachine}
use Rattle.turn_lock.proofs.Turning.{draws, looks, counts, serves}
use Rattle.turn_lock.proofs.Meeting.{settles}

module _ {O E R M : Type 0} (stands : O → List (E × R) → M → Type 0) (o : O) (slots : ℕ) (one : slots ≡ 1) (id : ℕ) (me : Me (Option (Held M)) (View O E R)) where
  pub may_draw : 0 < me.0.parts → me.0.ticket ≡ None → me.0.holds ≡ false → Allows (Kept stands o) slots id me 1 (λ n. (n + 1) % 18446744073709551616) (Drew me)
  may_draw p t h = λ s k n. draws stands o id me.0 me.1 p t h s k (n ∙ one)

  pub may_look : (t : ℕ) → me.1 ≡ [] → me.0.ticket ≡ Some t → me.0.holds ≡ false → Allows (Kept stands o) slots id me 2 (λ n. n) (Looked stands me)
  may_look t empty e h = subst (λ (c : List (ℕ × Option (Held M))). Allows (Kept stands o) slots id (me.0, c) 2 (λ n. n) (Looked stands (me.0, c))) (sym empty) (λ s k n. looks stands o id me.0 t e h s k (n ∙ one))

  pub may_count : (entry : Option (E × R)) (e : E × R) → entry ≡ Some e → me.0.holds ≡ true → Allows (Kept stands o) slots id me 0 (λ n. (n + 1) % 18446744073709551616) (Counted entry me)
  may_count entry e is h = λ s k n. counts stands o id me.0 me.1 entry e is h s k (n ∙ one)

  pub may_serve : (held : Held M) → me.1 ≡ (0, Some held) ∷ [] → HoldsMachine stands me.0 held.machine held.entries → Allows (Kept stands o) slots id me 2 (λ n. (n + 1) % 18446744073709551616) (Served me)
  may_serve held carried h = subst (λ (c : List (ℕ × Option (Held M))). Allows (Kept stands o) slots id (me.0, c) 2 (λ n. (n + 1) % 18446744073709551616) (Served (me.0, c))) (sym carried) (λ s k n. serves stands o id me.0 held h.holds h.stands_for h.entries_are s k (n ∙ one))

  pub may_settle : Allows (Kept stands o) slots id me 0 (λ n. n) (Settled me)
  may_settle = λ s k n. settles stands o id me.0 me.1 s k (n ∙ one)
