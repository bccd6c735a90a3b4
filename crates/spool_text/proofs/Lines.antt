-- The lines of a text, and the items of these lines.
use Rattle.std.proofs.Common.{◌≡◌, ℕ, ◌<◌, ◌≤◌, ◌==◌, ◌||◌, Bool, true, false, cond, ltb, List, [], ◌∷◌, ◌++◌, length, get_or, take, drop, position, None, Some, refl, sym, ap, ◌∙◌, arith, zero, suc, append_assoc, append-nil}
use Rattle.std.specs.List.{position_or_len}
use Rattle.std.proofs.lemmas.Bool.Decides.{nat_tests}
use Rattle.std.proofs.lemmas.List.Quantifiers.{position-Some}
use borrow.Author.Tests.{ltb-false}
use Rattle.job_values.specs.declared.run.CallbackItem.{CallbackItem}
use Rattle.callback_spool.specs.Different.{names, HaveDifferentLogs}
use Rattle.spool_text.specs.Spool.{whole_from, last_from}

-- a text whose first LF stands at a place
pub record CutAt (line rest : List ℕ) (i : ℕ) : Type 0 where
  pub whole : whole_from line rest ≡ (line ++ take i rest) ∷ whole_from [] (drop (suc i) rest)
  pub last : last_from line rest ≡ last_from [] (drop (suc i) rest)

cut_by : (line rest : List ℕ) (i : ℕ) → i < length rest → (get_or rest i 0 == 10) ≡ true → ((k : ℕ) → k < i → (get_or rest k 0 == 10) ≡ false) → CutAt line rest i
cut_by line [] i lt e h = absurd (omega arith)
cut_by line (b ∷ bs) zero lt e h = record { whole = rw (e, append-nil line) refl; last = rw e refl }
cut_by line (b ∷ bs) (suc i) lt e h =
    let more = cut_by (line ++ b ∷ []) bs i (omega arith) e (λ k below. h (suc k) (omega arith)) in
    let past : (b == 10) ≡ false = h 0 (omega arith) in
    record { whole = rw past (more.whole ∙ ap (λ l. l ∷ whole_from [] (drop (suc i) bs)) (append_assoc line (b ∷ []) (take i bs))); last = rw past more.last }

pub cut_at : (rest : List ℕ) (i : ℕ) → position (λ b. b == 10) rest ≡ Some i → CutAt [] rest i
cut_at rest i e = let at = position-Some (λ b. b == 10) rest i 0 e in cut_by [] rest i at.0 at.1 at.2

-- a text without LF
pub record Uncut (line rest : List ℕ) : Type 0 where
  pub whole : whole_from line rest ≡ []
  pub last : last_from line rest ≡ line ++ rest

none_from : (b : Bool) (n : ℕ) → cond b (Some n) None ≡ None → b ≡ false
none_from true n e = cc
none_from false n e = refl

uncut_past : (line : List ℕ) (b : ℕ) (bs : List ℕ) (t : Bool) → (b == 10) ≡ t → length (b ∷ bs) ≤ position_or_len (λ x. x == 10) (b ∷ bs) → (length bs ≤ position_or_len (λ x. x == 10) bs → Uncut (line ++ b ∷ []) bs) → Uncut line (b ∷ bs)
uncut_past line b bs true e h step = let k = rw e at h in absurd (omega arith)
uncut_past line b bs false e h step =
    let k = rw e at h in
    let more = step (omega arith) in
    record { whole = rw e more.whole; last = rw e (more.last ∙ append_assoc line (b ∷ []) bs) }

uncut_by : (line rest : List ℕ) → length rest ≤ position_or_len (λ x. x == 10) rest → Uncut line rest
uncut_by line [] h = record { whole = refl; last = sym (append-nil line) }
uncut_by line (b ∷ bs) h = uncut_past line b bs (b == 10) refl h (uncut_by (line ++ b ∷ []) bs)

pub uncut : (rest : List ℕ) → position (λ b. b == 10) rest ≡ None → Uncut [] rest
uncut rest e = uncut_by [] rest (ltb-false _ _ (none_from (ltb (position_or_len (λ b. b == 10) rest) (length rest)) (position_or_len (λ b. b == 10) rest) e))

-- ---- one more item
pub names-push : (log : ℕ) (items : List CallbackItem) (item : CallbackItem) → names log (items ++ item ∷ []) ≡ (names log items || (log == item.log))
names-push log [] item = or_false (log == item.log) where
  or_false : (b : Bool) → (b || false) ≡ b
  or_false true = refl
  or_false false = refl
names-push log (x ∷ items) item = ap (λ (b : Bool). (log == x.log) || b) (names-push log items item) ∙ or_assoc (log == x.log) (names log items) (log == item.log) where
  or_assoc : (a b c : Bool) → (a || (b || c)) ≡ ((a || b) || c)
  or_assoc true b c = refl
  or_assoc false b c = refl

apart_case : (x item : CallbackItem) (items : List CallbackItem) (b : Bool) → (item.log == x.log) ≡ b → names x.log items ≡ false → names item.log (x ∷ items) ≡ false → names x.log (items ++ item ∷ []) ≡ false
apart_case x item items true e none new = let k = rw e at new in absurd cc
apart_case x item items false e none new = names-push x.log items item ∙ rw (none, turn item.log x.log e) refl where
  turn : (m n : ℕ) → (m == n) ≡ false → (n == m) ≡ false
  turn m n h = grind (arith, nat_tests)

rest_case : (x item : CallbackItem) (items : List CallbackItem) (b : Bool) → (item.log == x.log) ≡ b → names item.log (x ∷ items) ≡ false → names item.log items ≡ false
rest_case x item items true e new = let k = rw e at new in absurd cc
rest_case x item items false e new = rw e at new

pub different-push : (items : List CallbackItem) (item : CallbackItem) → HaveDifferentLogs items → names item.log items ≡ false → HaveDifferentLogs (items ++ item ∷ [])
different-push [] item h new = (refl, tt)
different-push (x ∷ items) item h new =
    (apart_case x item items (item.log == x.log) refl h.0 new, different-push items item h.1 (rest_case x item items (item.log == x.log) refl new))
