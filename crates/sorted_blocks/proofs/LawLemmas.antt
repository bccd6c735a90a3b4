-- Lemmas on which keys are there after a put or a drop.
use Rattle.std.proofs.Common.{◌≡◌, ℕ, List, [], ◌∷◌, Bool, true, false, cond, not, ◌||◌, ◌&&◌, get_or, refl, sym, ap, ◌∙◌, arith}
use Rattle.std.specs.declared.cmp.Ordering.{Ordering}
use Rattle.std.specs.declared.cmp.Ordering.TheVariants.{Less, Equal, Greater}
use Rattle.std.specs.List.{All}
use Rattle.std.specs.Ordering.{nat_cmp, ordering_then, match_ordering, is_eq}
use Rattle.std.proofs.lemmas.Bool.Decides.{nat_tests}
use Rattle.std.proofs.lemmas.Cmp.{alike_right}
use Rattle.std.proofs.lemmas.List.Folds.{list_any_none}
use Rattle.sorted_blocks.specs.declared.key.Key.{Key}
use Rattle.sorted_blocks.specs.Keys.{key_cmp, key_order, has_key, Rises, with_key, without_key}
use Rattle.sorted_blocks.proofs.ListLemmas.{pairs-head, pairs-tail}
use Rattle.sorted_blocks.proofs.OrderLemmas.{IsBelow, key_cmp-total, above-later}

equal-nat : (m n : ℕ) → nat_cmp m n ≡ Equal → m ≡ n
equal-nat m n h = grind (arith, nat_tests)

-- equal keys are the same
pub equal-keys : (a b : Key) → key_cmp a b ≡ Equal → a ≡ b
equal-keys a b is = by (nat_cmp a.time b.time) refl is
  where
    by : (o : Ordering) → nat_cmp a.time b.time ≡ o → ordering_then o (nat_cmp a.id b.id) ≡ Equal → a ≡ b
    by Less time id = (cc)
    by Equal time id =
        let times : a.time ≡ b.time = equal-nat a.time b.time time in
        let ids : a.id ≡ b.id = equal-nat a.id b.id id in
        ap (λ (n : ℕ). let key : Key = record { time = n; id = a.id } in key) times ∙ ap (λ (n : ℕ). let key : Key = record { time = b.time; id = n } in key) ids
    by Greater time id = (cc)

or-swap : (a b c : Bool) → (a || (b || c)) ≡ (b || (a || c))
or-swap true true c = refl
or-swap true false c = refl
or-swap false true c = refl
or-swap false false c = refl

or-again : (a b : Bool) → (a || (a || b)) ≡ (a || b)
or-again true b = refl
or-again false b = refl

-- a key that is put is there, with the others
pub has-put : (key other : Key) (keys : List Key) → has_key other (with_key key keys) ≡ (is_eq (key_order other key) || has_key other keys)
has-put key other [] = refl
has-put key other (first ∷ keys) = by (key_order key first) refl (has-put key other keys)
  where
    by : (o : Ordering) → key_order key first ≡ o → has_key other (with_key key keys) ≡ (is_eq (key_order other key) || has_key other keys)
        → has_key other (match_ordering o (first ∷ with_key key keys) (key ∷ keys) (key ∷ first ∷ keys)) ≡ (is_eq (key_order other key) || (is_eq (key_order other first) || has_key other keys))
    by Less is rest =
        ap (λ (b : Bool). is_eq (key_order other first) || b) rest ∙ or-swap (is_eq (key_order other first)) (is_eq (key_order other key)) (has_key other keys)
    by Equal is rest =
        sym (ap (λ (k : Key). is_eq (key_order other key) || (is_eq (key_order other k) || has_key other keys)) (equal-keys first key is)
        ∙ or-again (is_eq (key_order other key)) (has_key other keys))
    by Greater is rest = refl

-- a key that is there is put for nothing
pub put-again : (key : Key) (keys : List Key) → Rises keys → has_key key keys ≡ true → with_key key keys ≡ keys
put-again key [] rises has = absurd (let never : false ≡ true = has in cc)
put-again key (first ∷ keys) rises has =
    by (key_order key first) refl (λ there. put-again key keys (pairs-tail IsBelow first keys rises) there) has
  where
    by : (o : Ordering) → key_order key first ≡ o → (has_key key keys ≡ true → with_key key keys ≡ keys) → (is_eq o || has_key key keys) ≡ true
        → match_ordering o (first ∷ with_key key keys) (key ∷ keys) (key ∷ first ∷ keys) ≡ first ∷ keys
    by Less is later there = ap (λ (ks : List Key). first ∷ ks) (later there)
    by Equal is later there = ap (λ (k : Key). k ∷ keys) (sym (equal-keys first key is))
    by Greater is later there =
        let none : has_key key keys ≡ false =
        list_any_none (λ other. is_eq (key_order key other)) keys (λ k d lt. ap is_eq (above-later first (get_or keys k d) key Greater is refl (pairs-head IsBelow first keys rises k d lt))) in
        absurd (let never : true ≡ false = sym there ∙ none in cc)

-- of a key that is kept and one that is dropped
kept-apart : (same dropped rest : Bool) → (same ≡ true → dropped ≡ false) → (dropped || (not same && rest)) ≡ (not same && (dropped || rest))
kept-apart true true rest apart = absurd (let never : true ≡ false = apart refl in cc)
kept-apart true false rest apart = refl
kept-apart false dropped rest apart = refl

dropped-same : (same here rest : Bool) → here ≡ same → (not same && rest) ≡ (not same && (here || rest))
dropped-same true here rest is = refl
dropped-same false true rest is = absurd (let never : true ≡ false = is in cc)
dropped-same false false rest is = refl

pub eq-equal : (o : Ordering) → is_eq o ≡ true → o ≡ Equal
eq-equal Less h = (cc)
eq-equal Equal h = refl
eq-equal Greater h = (cc)

-- a key that is dropped is not there, and the others are
pub has-without : (key other : Key) (keys : List Key) → has_key other (without_key key keys) ≡ (not (is_eq (key_order other key)) && has_key other keys)
has-without key other [] = by (is_eq (key_order other key))
  where
    by : (b : Bool) → false ≡ (not b && false)
    by true = refl
    by false = refl
has-without key other (first ∷ keys) = by (is_eq (key_order key first)) refl (has-without key other keys)
  where
    by : (b : Bool) → is_eq (key_order key first) ≡ b → has_key other (without_key key keys) ≡ (not (is_eq (key_order other key)) && has_key other keys)
        → has_key other (cond (not b) (first ∷ without_key key keys) (without_key key keys)) ≡ (not (is_eq (key_order other key)) && (is_eq (key_order other first) || has_key other keys))
    by false is rest =
        ap (λ (b : Bool). is_eq (key_order other first) || b) rest
        ∙ kept-apart (is_eq (key_order other key)) (is_eq (key_order other first)) (has_key other keys)
        (λ same. sym (ap is_eq (alike_right key_cmp-total key other first (eq-equal (key_order other key) same))) ∙ is)
    by true is rest =
        rest
        ∙ dropped-same (is_eq (key_order other key)) (is_eq (key_order other first)) (has_key other keys)
        (ap (λ (k : Key). is_eq (key_order other k)) (equal-keys first key (eq-equal (key_order key first) is)))
