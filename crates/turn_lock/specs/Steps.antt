-- What each kind of step tells the seat that makes it.
use Rattle.std.specs.Prelude.{◌≡◌, ℕ, ◌+◌, ◌-◌, ◌%◌, ◌≤◌, ◌==◌, List, [], ◌∷◌, ◌++◌, length, Option, Some, None, true, false, MatchBool}
use Rattle.atomic_table.specs.Table.{Me}
use Rattle.turn_lock.specs.declared.view.View.{View}
use Rattle.turn_lock.specs.declared.view.Held.{Held}
use Rattle.turn_lock.specs.Places.{IsPrefix, RisesFrom, longer, merged, upto, capped}

module _ {O E R : Type 0} where
  -- a seat that has seen this much and owns no place
  abbrev pub newcomer : Option O → List (E × R) → ℕ → View O E R
  newcomer o log parts = record { opening = o; seen = log; own = []; parts = parts; ticket = None; holds = false; before = []; told = []; also = None }

  -- a seat whose parts went to another
  abbrev pub nobody : View O E R
  nobody = record { opening = None; seen = []; own = []; parts = 0; ticket = None; holds = false; before = []; told = []; also = None }

  abbrev pub drawing : View O E R → ℕ → View O E R
  drawing v t = record v { ticket = Some t }

  abbrev pub taking : View O E R → List (E × R) → View O E R
  taking v log = record v { seen = log; holds = true }

  abbrev pub acted : View O E R → E × R → View O E R
  acted v e = record v { seen = v.seen ++ e ∷ []; own = v.own ++ (length v.seen + 1) ∷ [] }

  abbrev pub leaving : View O E R → View O E R
  leaving v = record v { ticket = None; holds = false }

  abbrev pub giving : View O E R → ℕ → View O E R
  giving v parts = record v { parts = v.parts - parts }

  -- both seats in one, which keeps in mind what each had seen
  abbrev pub joined : View O E R → View O E R → View O E R
  joined v w = record v { seen = longer v.seen w.seen; own = merged v.own w.own; parts = v.parts + w.parts; before = v.seen; told = w.seen; also = w.opening }

  abbrev pub settled : View O E R → View O E R
  settled v = record v { before = []; told = []; also = None }

module _ {O E R S : Type 0} where
  -- the seat has the ticket that the word showed
  abbrev pub Drew : Me S (View O E R) → ℕ → Me S (View O E R) → Type 0
  Drew m found m' = (t : ℕ) × (found ≡ t % 18446744073709551616) × (m' ≡ (drawing m.0 t, m.1))

  -- the history has this entry more, at a place that is the seat's own
  abbrev pub Counted : Option (E × R) → Me S (View O E R) → ℕ → Me S (View O E R) → Type 0
  Counted entry m found m' = (e : E × R) → entry ≡ Some e → m' ≡ (acted m.0 e, m.1)

  -- the seat has no ticket, and the machine is in its slot
  abbrev pub Served : Me S (View O E R) → ℕ → Me S (View O E R) → Type 0
  Served m found m' = m' ≡ (leaving m.0, [])

  -- what both seats had seen begins what the joined one has seen
  abbrev pub Settled : Me S (View O E R) → ℕ → Me S (View O E R) → Type 0
  Settled m found m' =
      (m' ≡ (settled m.0, m.1)) × IsPrefix m.0.before m.0.seen × IsPrefix m.0.told m.0.seen × (m.0.parts ≤ 9223372036854775808) × RisesFrom 0 m.0.own (length m.0.seen) × ((x : O) → m.0.also ≡ Some x → m.0.opening ≡ Some x)

module _ {O E R M : Type 0} (stands : O → List (E × R) → M → Type 0) where
  -- the seat has seen the whole history and holds the machine, which stands for it. A seat with all parts owns each place, and had seen it all
  pub record Took (m m' : Me (Option (Held M)) (View O E R)) : Type 0 where
    pub log : List (E × R)
    pub held : Held M
    pub grows : IsPrefix m.0.seen log
    pub now : m' ≡ (taking m.0 log, (0, Some held) ∷ m.1)
    pub stands_for : (o : O) → m.0.opening ≡ Some o → stands o log held.machine
    pub entries : held.entries ≡ capped (length log)
    pub whole : m.0.parts ≡ 9223372036854775808 → (m.0.seen ≡ log) × (m.0.own ≡ upto 0 (length log))

  -- the seat's ticket is served exactly where the word shows it
  abbrev pub Looked : Me (Option (Held M)) (View O E R) → ℕ → Me (Option (Held M)) (View O E R) → Type 0
  Looked m found m' = (t : ℕ) → m.0.ticket ≡ Some t → MatchBool (found == t % 18446744073709551616) (Took m m') (m' ≡ m)

  -- after its turn has come: for some ticket, what the look told
  abbrev pub HasTurn : View O E R → Me (Option (Held M)) (View O E R) → Type 0
  HasTurn v me = (t : ℕ) × Took (drawing v t, []) me

  -- the seat holds this machine, which stands for all that the seat has seen
  pub record HoldsMachine (v : View O E R) (machine : M) (entries : ℕ) : Type 0 where
    pub holds : v.holds ≡ true
    pub stands_for : (o : O) → v.opening ≡ Some o → stands o v.seen machine
    pub entries_are : entries ≡ capped (length v.seen)
