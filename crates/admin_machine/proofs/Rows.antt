-- What a keeper holds, where it tells it.
use Rattle.std.proofs.Common.{◌≡◌, ℕ, ◌≤◌, List, [], Option, Some, None, refl, sym, ap, ◌∙◌, subst, arith}
use Rattle.std.specs.Prelude.{IfSome}
use Rattle.std.specs.Option.{option_map}
use Rattle.outside.specs.Causes.{Rose}
use Rattle.job_records.specs.declared.change.Change.{Change}
use Rattle.job_records.specs.Changes.{applied_all, AreAllowed}
use Rattle.job_records.specs.Tables.{Tables}
use Rattle.record_keeper.specs.declared.keeper.Loaded.{Loaded}
use Rattle.record_keeper.specs.Keeping.{AreOf, LoadsAs}
use Rattle.admin_machine.specs.Views.{Holds}

-- no changes leave it as it is
pub none-saved : (changes : List Change) (held : Option Tables) → changes ≡ [] → held ≡ option_map (λ t. applied_all t changes) held
none-saved changes None none = refl
none-saved changes (Some t) none = ap (λ cs. Some (applied_all t cs)) (sym none)

-- what is so of the rows is so of what is held of them
pub held-such : (held : Option Tables) (rows : Tables) (P : Tables → Type 0) → Holds held rows → P rows → IfSome held P
held-such None rows P holds is = tt
held-such (Some t) rows P holds is = subst P (sym holds) is

-- what is made of it is what is made of the rows
pub saved-holds : (held : Option Tables) (rows : Tables) (f : Tables → Tables) → Holds held rows → Holds (option_map f held) (f rows)
saved-holds None rows f holds = tt
saved-holds (Some t) rows f holds = ap f holds

-- what is made of rows that are held, by two changes that agree there
pub mapped-same : (held : Option Tables) (rows : Tables) (f k : Tables → Tables) → Holds held rows → f rows ≡ k rows → option_map f held ≡ option_map k held
mapped-same None rows f k holds same = refl
mapped-same (Some t) rows f k holds same = ap (λ u. Some u) (ap f holds ∙ same ∙ sym (ap k holds))

-- rows that a load told are what is held
pub loaded-holds : (held : Option Tables) (loaded : Loaded) (rows : Tables) → ((t : Tables) → AreOf t loaded → t ≡ rows) → LoadsAs held loaded → Holds held rows
loaded-holds None loaded rows is told = tt
loaded-holds (Some t) loaded rows is told = is t (told t refl)

-- what is held is at most these rows
pub held-is : (held : Option Tables) (rows t : Tables) → Holds held rows → held ≡ Some t → rows ≡ t
held-is None rows t holds is = (cc)
held-is (Some u) rows t holds is = let same : u ≡ t = (cc) in sym holds ∙ same

-- a count that rose, rose since it was lower
pub rose-since : (first then now : ℕ) → first ≤ then → Rose then now → Rose first now
rose-since first then now later rose = omega arith
