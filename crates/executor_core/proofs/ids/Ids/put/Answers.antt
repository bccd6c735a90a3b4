use Rattle.std.proofs.Common.{◌≡◌, ◌≤◌, false, ℕ, List, [], ◌∷◌, ◌++◌, if◌then◌else◌, Result, Ok, Err, IsOk, IfOk, refl, sym, ap, ◌∙◌, subst, nat_eq, arith}
use Rattle.std.specs.List.{list_any}
use Rattle.executor_history.specs.Past.{put_id, is_among}
use Rattle.executor_core.specs.Ids.{IdsView, in_rise}
use Rattle.executor_core.proofs.IdKeys.{among-own, keys-push}
use Rattle.executor_core.proofs.ids.Ids.put.Goals as goal

-- what holds where a call succeeds holds where it is known to
once_ok : {T E : Type 0} (r : Result T E) (P : T → Type 0) (Q : Type 0) → ((x : T) → P x → Q) → IsOk r → IfOk r P → Q
once_ok (Ok x) P Q f ok holds = f x holds
once_ok (Err x) P Q f ok holds = absurd cc

-- a new key goes last
last_key : (id : ℕ) (keys after : List ℕ) → is_among id keys ≡ false → after ≡ (if list_any (nat_eq id) keys then keys else keys ++ id ∷ []) → in_rise after [] ≡ put_id id (in_rise keys [])
last_key id keys after new e =
    let last : (if list_any (nat_eq id) keys then keys else keys ++ id ∷ []) ≡ keys ++ id ∷ [] = rw new refl in
    ap (λ ks. in_rise ks []) (e ∙ last) ∙ keys-push id keys []

pub returns : goal.returns
returns c =
    let P : IdsView → Type 0 = λ v. 1 ≤ v.room in
    let Q : IdsView → Type 0 = λ v. is_among c.args.id v.ids ≡ false in
    let room = subst P (sym c.self.view_is) c.requires.room in
    let new : is_among c.args.id c.self.inside.ids.keys ≡ false = sym (among-own c.args.id c.self.inside.ids.keys) ∙ subst Q (sym c.self.view_is) c.requires.new in
    rw (← c.self.view_is)
    (once_ok c.insert-put.result _ _ (λ x keys. last_key c.args.id c.self.inside.ids.keys c.insert-put.new.self.keys new (rw c.get.ensures.value at keys)) (c.insert-put.ensures.succeeds (omega (arith, room))) c.insert-put.ensures.keys)
