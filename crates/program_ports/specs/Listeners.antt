-- What a listener tells, and what its calls do.
use Rattle.std.specs.Prelude.{◌≡◌, ℕ, Bool, true, false, ◌||◌, List, [], ◌∷◌, ◌++◌, Option, None, Some, Result, Ok, Err, is_err, if◌then◌else◌}
use Rattle.std.specs.Option.{option_map}
use Rattle.outside.specs.Causes.{faults_after}
use Rattle.program_ports.specs.declared.listener.Accept.{Accept}
use Rattle.program_ports.specs.declared.listener.Accept.TheVariants as accept

-- the links left, where they are told, whether the end was met, and how often a call failed
pub record ListenerView (L : Type 0) : Type 0 where
  pub left : Option (List L)
  pub met : Bool
  pub faults : ℕ

module _ {L : Type 0} where
  -- a call that is no accept leaves the links, and what is told of the end
  pub record Waits (old new : ListenerView L) : Type 0 where
    pub left : new.left ≡ old.left
    pub met : new.met ≡ old.met

  -- an accept that gives a link takes the first of those left; every other one leaves them
  abbrev pub TakesLink : Option (List L) → Accept L → Option (List L) → Type 0
  TakesLink old (accept.Came link) new = old ≡ option_map (λ (links : List L). link ∷ links) new
  TakesLink old accept.Idle new = new ≡ old
  TakesLink old accept.Ended new = new ≡ old

  abbrev pub GivesLink : {E : Type 0} → Option (List L) → Result (Accept L) E → Option (List L) → Type 0
  GivesLink old (Ok a) new = TakesLink old a new
  GivesLink old (Err e) new = new ≡ old

  -- the first of these links, and behind the last the end
  abbrev pub first_of : List L → Accept L
  first_of [] = accept.Ended
  first_of (link ∷ links) = accept.Came link

  -- an accept met the end
  abbrev pub is_end : {E : Type 0} → Result (Accept L) E → Bool
  is_end (Ok accept.Ended) = true
  is_end (Ok accept.Idle) = false
  is_end (Ok (accept.Came link)) = false
  is_end (Err e) = false

  -- what an accept did: the end is met exactly from one that answers Ended on
  pub record Accepts {E : Type 0} (old new : ListenerView L) (result : Result (Accept L) E) : Type 0 where
    pub left : GivesLink old.left result new.left
    pub met : new.met ≡ (old.met || is_end result)

-- links in memory, with the moments between them at which none is there; the calls of these numbers fail
pub record ListenerMemory (L : Type 0) : Type 0 where
  pub coming : List (Option L)
  pub met : Bool
  pub failing : List ℕ
  pub calls : ℕ
  pub faults : ℕ

module _ {L : Type 0} where
  -- the links among them
  abbrev pub links_in : List (Option L) → List L
  links_in [] = []
  links_in (None ∷ rest) = links_in rest
  links_in (Some link ∷ rest) = link ∷ links_in rest

  -- what comes next: a link, or none at this moment; behind the last the end
  abbrev pub next_in : List (Option L) → Accept L
  next_in [] = accept.Ended
  next_in (None ∷ rest) = accept.Idle
  next_in (Some link ∷ rest) = accept.Came link

  abbrev pub seen_memory : ListenerMemory L → ListenerView L
  seen_memory m = record { left = Some (links_in m.coming); met = m.met; faults = m.faults }

  -- after a call it is counted, and a failure too
  abbrev pub after_call : {X E : Type 0} → ListenerMemory L → Result X E → ListenerMemory L
  after_call m result = record m {
    calls = faults_after m.calls;
    faults = if is_err result then faults_after m.faults else m.faults;
  }
