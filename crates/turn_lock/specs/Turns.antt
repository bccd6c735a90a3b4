-- The rule of the lock's table: one history, whose turns are taken in the order of their tickets.
use Rattle.std.specs.Prelude.{◌≡◌, ◌⊎◌, ℕ, ◌+◌, ◌%◌, ◌<◌, ◌≤◌, List, [], ◌∷◌, length, Option, Some, None, true, false}
use mathlib.Core.Option.{some, none}
use mathlib.Core.Option as maybe
use lib.ListN.{get_elem?}
use Rattle.atomic_table.specs.Table.{State}
use Rattle.turn_lock.specs.declared.view.View.{View}
use Rattle.turn_lock.specs.declared.view.Held.{Held}
use Rattle.turn_lock.specs.Places.{IsPrefix, RisesFrom, times, capped}

-- f of each, added up
abbrev pub total : {V : Type 0} → (V → ℕ) → List V → ℕ
total f [] = 0
total f (v ∷ vs) = f v + total f vs

-- 1 for a seat that waits or holds the machine
abbrev pub waits : Option ℕ → ℕ
waits None = 0
waits (Some t) = 1

module _ {O E R : Type 0} where
  -- what the rule says of the seat with this number: what it saw begins the history, its places rise, its ticket is its own and not served, and only the seat that is served holds the machine
  pub record Fits (o : O) (log : List (E × R)) (drawn served : ℕ) (owner : ℕ → ℕ) (id : ℕ) (v : View O E R) : Type 0 where
    pub opening : 0 < v.parts → v.opening ≡ Some o
    pub seen : IsPrefix v.seen log
    pub rising : RisesFrom 0 v.own (length v.seen)
    pub ticket : (t : ℕ) → v.ticket ≡ Some t → (owner t ≡ id) × (served ≤ t) × (t < drawn) × (0 < v.parts)
    pub holder : v.holds ≡ true → (v.ticket ≡ Some served) × (v.seen ≡ log)
    pub spent : v.parts ≡ 0 → v.own ≡ []
    pub before : IsPrefix v.before v.seen
    pub told : IsPrefix v.told v.seen
    pub also : (x : O) → v.also ≡ Some x → v.opening ≡ Some x

module _ {O E R M : Type 0} (stands : O → List (E × R) → M → Type 0) (o : O) (log : List (E × R)) (homes : List (maybe.Option (Option (Held M)))) (views : List (View O E R)) where
  -- the machine is in its slot and stands for the history, and no seat holds it
  pub record AtHome : Type 0 where
    pub held : Held M
    pub home : homes ≡ some (Some held) ∷ []
    pub stands_for : stands o log held.machine
    pub entries : held.entries ≡ capped (length log)
    pub free : (id : ℕ) (v : View O E R) → get_elem? views id ≡ some v → v.holds ≡ false

  -- a seat holds the machine
  pub record IsOut : Type 0 where
    pub home : homes ≡ none ∷ []
    pub id : ℕ
    pub view : View O E R
    pub at : get_elem? views id ≡ some view
    pub holds : view.holds ≡ true

module _ {O E R M : Type 0} (stands : O → List (E × R) → M → Type 0) (o : O) (s : State (Option (Held M)) (View O E R)) where
  -- there is one history: the words count it, the tickets drawn and the tickets served, the parts are 2^63 together, and each place is one seat's own
  pub record Kept : Type 0 where
    pub log : List (E × R)
    pub drawn : ℕ
    pub served : ℕ
    pub owner : ℕ → ℕ
    pub words : s.words ≡ length log % 18446744073709551616 ∷ drawn % 18446744073709551616 ∷ served % 18446744073709551616 ∷ []
    pub parts : total (λ v. v.parts) s.views ≡ 9223372036854775808
    pub tickets : total (λ v. waits v.ticket) s.views + served ≡ drawn
    pub places : (p : ℕ) → 0 < p → p ≤ length log → total (λ v. times p v.own) s.views ≡ 1
    pub each : (id : ℕ) (v : View O E R) → get_elem? s.views id ≡ some v → Fits o log drawn served owner id v
    pub slot : AtHome stands o log s.homes s.views ⊎ IsOut stands o log s.homes s.views
