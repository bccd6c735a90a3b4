-- The due keys stand before the others, and a page is the front of their ids in order.
use Rattle.std.proofs.Common.{◌≡◌, ℕ, zero, suc, List, [], ◌∷◌, Bool, true, false, cond, eqb, leb, Option, Some, None, get_or, map, refl, sym, ap, ◌∙◌, arith}
use Rattle.std.specs.declared.cmp.Ordering.{Ordering}
use Rattle.std.specs.declared.cmp.Ordering.TheVariants.{Less, Equal, Greater}
use Rattle.std.specs.List.{filter, All, slice_get}
use Rattle.std.specs.List.Sorted.{IsPermutation}
use Rattle.std.specs.Option.{option_and_then, option_map}
use Rattle.std.specs.Ordering.{nat_cmp, ordering_then}
use Rattle.std.proofs.lemmas.Bool.Decides.{nat_tests}
use Rattle.std.proofs.lemmas.Cmp.{nat_eq_equiv}
use Rattle.std.proofs.lemmas.List.Elements.{All-tail}
use Rattle.std.proofs.lemmas.List.Sorted.{list_any-IsPermutation}
use Rattle.std.proofs.lemmas.List.Kept.{Contains-dedup_nat, Contains-from_dedup}
use Rattle.std.proofs.lemmas.Map.Views.{Contains-from_any, list_any-from_Contains}
use Rattle.std.specs.List.{dedup}
use Rattle.sorted_blocks.specs.declared.key.Key.{Key}
use Rattle.sorted_blocks.specs.Keys.{Rises}
use Rattle.sorted_blocks.proofs.ListLemmas.{pairs-head, pairs-tail}
use Rattle.sorted_blocks.proofs.OrderLemmas.{IsBelow}
use Rattle.row_indexes.specs.Due.{pair_of}
use Rattle.row_indexes.specs.Pages.{due_ids, has_id}

-- a key behind one that is too late is too late
late : (bound : ℕ) (key later : Key) → leb key.time bound ≡ false → IsBelow key later → leb later.time bound ≡ false
late bound key later is below = by (nat_cmp key.time later.time) refl below
  where
    by : (o : Ordering) → nat_cmp key.time later.time ≡ o → ordering_then o (nat_cmp key.id later.id) ≡ Less → leb later.time bound ≡ false
    by Less time h = grind (arith, nat_tests)
    by Equal time h = grind (arith, nat_tests)
    by Greater time h = (cc)

-- the id of a key that is due
abbrev pub id_if_due : ℕ → Key → Option ℕ
id_if_due bound key = cond (leb key.time bound) (Some key.id) None

none-due : (bound : ℕ) (keys : List Key) → All (λ key. leb key.time bound ≡ false) keys → due_ids bound keys ≡ []
none-due bound [] all = refl
none-due bound (key ∷ keys) all =
    ap (λ b. map (λ (k : Key). k.id) (cond b (key ∷ filter (λ k. leb k.time bound) keys) (filter (λ k. leb k.time bound) keys))) (all 0 key (omega arith))
    ∙ none-due bound keys (All-tail (λ k. leb k.time bound ≡ false) key keys all)

none-at : (bound : ℕ) (keys : List Key) (place : ℕ) → All (λ key. leb key.time bound ≡ false) keys → option_and_then (id_if_due bound) (slice_get keys place) ≡ None
none-at bound [] place all = refl
none-at bound (key ∷ keys) zero all = ap (λ b. cond b (Some key.id) None) (all 0 key (omega arith))
none-at bound (key ∷ keys) (suc place) all = none-at bound keys place (All-tail (λ k. leb k.time bound ≡ false) key keys all)

-- the id at a place of the due keys is that of the key at this place, if it is due
pub due-at : (bound : ℕ) (keys : List Key) (place : ℕ) → Rises keys → slice_get (due_ids bound keys) place ≡ option_and_then (id_if_due bound) (slice_get keys place)
due-at bound [] place up = refl
due-at bound (key ∷ keys) place up =
    by place (leb key.time bound) refl (λ at. due-at bound keys at (pairs-tail IsBelow key keys up))
  where
    others : leb key.time bound ≡ false → All (λ later. leb later.time bound ≡ false) keys
    others is k d lt = late bound key (get_or keys k d) is (pairs-head IsBelow key keys up k d lt)

    by : (place : ℕ) (b : Bool) → leb key.time bound ≡ b → ((at : ℕ) → slice_get (due_ids bound keys) at ≡ option_and_then (id_if_due bound) (slice_get keys at))
        → slice_get (map (λ k. k.id) (cond b (key ∷ filter (λ k. leb k.time bound) keys) (filter (λ k. leb k.time bound) keys))) place ≡ option_and_then (id_if_due bound) (slice_get (key ∷ keys) place)
    by zero true is rest = sym (ap (λ b. cond b (Some key.id) None) is)
    by (suc at) true is rest = rest at
    by zero false is rest =
        ap (λ (ids : List ℕ). slice_get ids 0) (none-due bound keys (others is)) ∙ sym (ap (λ b. cond b (Some key.id) None) is)
    by (suc at) false is rest =
        ap (λ (ids : List ℕ). slice_get ids (suc at)) (none-due bound keys (others is)) ∙ sym (none-at bound keys at (others is))

same-tests : (a b : Bool) → (a ≡ true → b ≡ true) → (b ≡ true → a ≡ true) → a ≡ b
same-tests true b f g = sym (f refl)
same-tests false true f g = g refl
same-tests false false f g = refl

eqb-is : (m n : ℕ) → eqb m n ≡ true → m ≡ n
eqb-is m n h = grind (arith, nat_tests)

-- the ids that stand in a list stand in it once it is sorted and each is there once
pub ids-sorted : (ids sorted : List ℕ) → IsPermutation ids sorted → (id : ℕ) → has_id id (dedup eqb sorted) ≡ has_id id ids
ids-sorted ids sorted moved id =
    same-tests (has_id id (dedup eqb sorted)) (has_id id sorted)
    (λ has. list_any-from_Contains nat_eq_equiv id sorted (Contains-from_dedup eqb sorted id (Contains-from_any eqb-is id (dedup eqb sorted) has)))
    (λ has. list_any-from_Contains nat_eq_equiv id (dedup eqb sorted) (Contains-dedup_nat sorted id (Contains-from_any eqb-is id sorted has)))
    ∙ sym (list_any-IsPermutation (eqb id) ids sorted moved)

-- the job of an entry that is read, if it is due
pub due-some : (bound : ℕ) (keys : List Key) (place : ℕ) (pair : ℕ × ℕ) → Rises keys → Some pair ≡ option_map pair_of (slice_get keys place) → cond (leb pair.0 bound) (Some pair.1) None ≡ slice_get (due_ids bound keys) place
due-some bound keys place pair up is = by (slice_get keys place) refl is
  where
    by : (o : Option Key) → slice_get keys place ≡ o → Some pair ≡ option_map pair_of o → cond (leb pair.0 bound) (Some pair.1) None ≡ slice_get (due_ids bound keys) place
    by None at e = (cc)
    by (Some key) at e =
        let same : pair ≡ pair_of key = (cc) in
        ap (λ (p : ℕ × ℕ). cond (leb p.0 bound) (Some p.1) None) same ∙ sym (due-at bound keys place up ∙ ap (option_and_then (id_if_due bound)) at)

pub due-none : (bound : ℕ) (keys : List Key) (place : ℕ) → Rises keys → None ≡ option_map pair_of (slice_get keys place) → None ≡ slice_get (due_ids bound keys) place
due-none bound keys place up is = by (slice_get keys place) refl is
  where
    by : (o : Option Key) → slice_get keys place ≡ o → None ≡ option_map pair_of o → None ≡ slice_get (due_ids bound keys) place
    by None at e = sym (due-at bound keys place up ∙ ap (option_and_then (id_if_due bound)) at)
    by (Some key) at e = (cc)
