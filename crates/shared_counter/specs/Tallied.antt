-- What the tally of four callers says.
use Rattle.std.specs.Prelude.{◌≡◌, ◌⊎◌, ℕ, ◌+◌, ◌<◌, List, [], ◌∷◌, length}
use Rattle.turn_lock.specs.Places.{capped}
use Rattle.shared_counter.specs.declared.counter.Add.{Add}
use Rattle.shared_counter.specs.declared.counter.Counter.{Counter}
use Rattle.shared_counter.specs.declared.tally.Tally.{Tally}
use Rattle.shared_counter.specs.Counting.{Stands}
use Rattle.shared_counter.specs.Dealt.{IsDealt, AddEach}

-- the entries of one caller: so many that add so much, and fewer only where the counter has no room for another
abbrev pub IsMadeBy : ℕ → ℕ → Counter → List (Add × ℕ) → Type 0
IsMadeBy by acts now es = AddEach by es × ((length es ≡ acts) ⊎ (now.limit < now.value + by))

-- there is one legal history from the first counter, for which the last one stands, of so many entries, and it is dealt among the four
pub record IsTallyOf (start : Counter) (by acts : ℕ) (t : Tally) : Type 0 where
  pub log : List (Add × ℕ)
  pub stands : Stands start log t.counter
  pub entries : t.entries ≡ capped (length log)
  pub first : IsMadeBy by acts t.counter t.first.items
  pub second : IsMadeBy by acts t.counter t.second.items
  pub third : IsMadeBy by acts t.counter t.third.items
  pub fourth : IsMadeBy by acts t.counter t.fourth.items
  pub dealt : IsDealt log (t.first.items ∷ t.second.items ∷ t.third.items ∷ t.fourth.items ∷ [])
