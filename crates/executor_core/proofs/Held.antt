-- Ids that are put one after another, where the items are of different logs.
use Rattle.std.proofs.Common.{◌≡◌, ℕ, ◌==◌, ◌||◌, Bool, true, false, nat_lt, List, [], ◌∷◌, refl, ap, ◌∙◌, arith}
use Rattle.std.proofs.lemmas.Bool.Decides.{nat_tests}
use Rattle.job_values.specs.declared.run.CallbackItem.{CallbackItem}
use Rattle.callback_spool.specs.Different.{names, HaveDifferentLogs}
use Rattle.executor_history.specs.Past.{put_id, is_among}

-- none of these items is of a log whose id is there
abbrev pub AreNew : List CallbackItem → List ℕ → Type 0
AreNew [] ids = Unit {0}
AreNew (item ∷ items) ids = (is_among item.log ids ≡ false) × AreNew items ids

put_step : (x id y : ℕ) (ids : List ℕ) (b : Bool) → nat_lt id y ≡ b → is_among x (put_id id ids) ≡ ((x == id) || is_among x ids) → is_among x (put_id id (y ∷ ids)) ≡ ((x == id) || is_among x (y ∷ ids))
put_step x id y ids true e h = rw e refl
put_step x id y ids false e h = rw e (ap (λ (b : Bool). (x == y) || b) h ∙ swap (x == y) (x == id) (is_among x ids)) where
  swap : (a b c : Bool) → (a || (b || c)) ≡ (b || (a || c))
  swap true true c = refl
  swap true false c = refl
  swap false true c = refl
  swap false false c = refl

among_put : (x id : ℕ) (ids : List ℕ) → is_among x (put_id id ids) ≡ ((x == id) || is_among x ids)
among_put x id [] = refl
among_put x id (y ∷ ids) = put_step x id y ids (nat_lt id y) refl (among_put x id ids)

turn : (m n : ℕ) (b : Bool) → (m == n) ≡ b → (n == m) ≡ b
turn m n true e = grind (arith, nat_tests)
turn m n false e = grind (arith, nat_tests)

new_step : (log : ℕ) (item : CallbackItem) (items : List CallbackItem) (ids : List ℕ) (b : Bool) → (log == item.log) ≡ b → names log (item ∷ items) ≡ false → is_among item.log ids ≡ false
    → (names log items ≡ false → AreNew items (put_id log ids)) → AreNew (item ∷ items) (put_id log ids)
new_step log item items ids true e none new rest = let k = rw e at none in absurd cc
new_step log item items ids false e none new rest = (among_put item.log log ids ∙ rw (turn log item.log false e) new, rest (rw e at none))

-- an id that none of them has leaves them new
new_put : (log : ℕ) (items : List CallbackItem) (ids : List ℕ) → names log items ≡ false → AreNew items ids → AreNew items (put_id log ids)
new_put log [] ids none h = tt
new_put log (item ∷ items) ids none h = new_step log item items ids (log == item.log) refl none h.0 (λ more. new_put log items ids more h.1)

-- what holds before the first of these items is taken holds after it
pub record Left (items : List CallbackItem) (ids : List ℕ) : Type 0 where
  pub different : HaveDifferentLogs items
  pub new : AreNew items ids

pub left_next : (item : CallbackItem) (items : List CallbackItem) (ids : List ℕ) → Left (item ∷ items) ids → Left items (put_id item.log ids)
left_next item items ids h = record { different = h.different.1; new = new_put item.log items ids h.different.0 h.new.1 }

pub left_first : (items : List CallbackItem) → HaveDifferentLogs items → Left items []
left_first items h = record { different = h; new = all_new items } where
  all_new : (items : List CallbackItem) → AreNew items []
  all_new [] = tt
  all_new (item ∷ items) = (refl, all_new items)
