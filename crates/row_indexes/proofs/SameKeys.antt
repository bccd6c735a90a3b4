-- Keys that rise are told by which keys are among them.
use Rattle.std.proofs.Common.{◌≡◌, ℕ, List, [], ◌∷◌, Bool, true, false, ◌||◌, get_or, refl, sym, ap, ◌∙◌, arith}
use Rattle.std.specs.declared.cmp.Ordering.{Ordering}
use Rattle.std.specs.declared.cmp.Ordering.TheVariants.{Less, Equal, Greater}
use Rattle.std.specs.List.{All}
use Rattle.std.specs.Ordering.{nat_cmp, ordering_reverse, ordering_then, is_eq}
use Rattle.std.proofs.lemmas.Bool.Decides.{nat_tests}
use Rattle.std.proofs.lemmas.List.Elements.{All-cons, All-weaker}
use Rattle.std.proofs.lemmas.List.Folds.{list_any_none}
use Rattle.sorted_blocks.specs.declared.key.Key.{Key}
use Rattle.sorted_blocks.specs.Keys.{key_cmp, key_order, has_key, Rises}
use Rattle.sorted_blocks.proofs.ListLemmas.{pairs-head, pairs-tail}
use Rattle.sorted_blocks.proofs.LawLemmas.{equal-keys, eq-equal}
use Rattle.sorted_blocks.proofs.OrderLemmas.{IsBelow, key_cmp-total}

same-number : (n : ℕ) → nat_cmp n n ≡ Equal
same-number n = grind (arith, nat_tests)

-- a key is equal to itself
pub same-key : (key : Key) → is_eq (key_order key key) ≡ true
same-key key = ap (λ o. is_eq (ordering_then o (nat_cmp key.id key.id))) (same-number key.time) ∙ ap is_eq (same-number key.id)

-- a key is not among those above it
pub absent-above : (key : Key) (keys : List Key) → All (IsBelow key) keys → has_key key keys ≡ false
absent-above key keys above =
    list_any_none (λ other. is_eq (key_order key other)) keys (λ k d lt. ap is_eq (key_cmp-total.antisymm (get_or keys k d) key ∙ ap ordering_reverse (above k d lt)))

-- where the first key is, it is among the keys
there : (key : Key) (keys : List Key) → has_key key (key ∷ keys) ≡ true
there key keys = ap (λ b. b || has_key key keys) (same-key key)

never : {G : Type 0} (key : Key) (xs ys : List Key) → has_key key (key ∷ xs) ≡ has_key key ys → has_key key ys ≡ false → G
never key xs ys same none = absurd (let wrong : true ≡ false = sym (there key xs) ∙ same ∙ none in cc)

-- keys that rise are the same where the same keys are among them
pub same-keys : (xs ys : List Key) → Rises xs → Rises ys → ((key : Key) → has_key key xs ≡ has_key key ys) → xs ≡ ys
same-keys [] [] up up' same = refl
same-keys [] (y ∷ ys) up up' same = never y ys [] (sym (same y)) refl
same-keys (x ∷ xs) [] up up' same = never x xs [] (same x) refl
same-keys (x ∷ xs) (y ∷ ys) up up' same =
    by (key_cmp x y) refl (λ tails. same-keys xs ys (pairs-tail IsBelow x xs up) (pairs-tail IsBelow y ys up') tails)
  where
    lower : (a b : Key) (bs : List Key) → IsBelow a b → Rises (b ∷ bs) → has_key a (b ∷ bs) ≡ false
    lower a b bs below rises =
        absent-above a (b ∷ bs) (All-cons (IsBelow a) b bs below (All-weaker (IsBelow b) (IsBelow a) (λ other after. key_cmp-total.trans a b other below after) bs (pairs-head IsBelow b bs rises)))

    rest : (key : Key) (b : Bool) → is_eq (key_order key x) ≡ b → x ≡ y → has_key key xs ≡ has_key key ys
    rest key true is e =
        let k : x ≡ key = equal-keys x key (eq-equal (key_order key x) is) in
        let left : has_key x xs ≡ false = absent-above x xs (pairs-head IsBelow x xs up) in
        let right : has_key y ys ≡ false = absent-above y ys (pairs-head IsBelow y ys up') in
        ap (λ (n : Key). has_key n xs) (sym k) ∙ left ∙ sym right ∙ ap (λ (n : Key). has_key n ys) (sym e ∙ k)
    rest key false is e =
        let at : (is_eq (key_order key x) || has_key key xs) ≡ (is_eq (key_order key y) || has_key key ys) = same key in
        let no : is_eq (key_order key y) ≡ false = ap (λ (n : Key). is_eq (key_order key n)) (sym e) ∙ is in
        ap (λ (b : Bool). b || has_key key xs) (sym is) ∙ at ∙ ap (λ (b : Bool). b || has_key key ys) no

    by : (o : Ordering) → key_cmp x y ≡ o → (((key : Key) → has_key key xs ≡ has_key key ys) → xs ≡ ys) → x ∷ xs ≡ y ∷ ys
    by Less is more = never x xs (y ∷ ys) (same x) (lower x y ys is up')
    by Equal is more =
        let e : x ≡ y = equal-keys x y is in
        ap (λ (k : Key). k ∷ xs) e ∙ ap (λ (ks : List Key). y ∷ ks) (more (λ key. rest key (is_eq (key_order key x)) refl e))
    by Greater is more = never y ys (x ∷ xs) (sym (same y)) (lower y x xs (key_cmp-total.antisymm y x ∙ ap ordering_reverse is) up)
