-- Lemmas on which block a key belongs to, and on what is read in blocks.
use Rattle.std.proofs.Common.{◌≡◌, ℕ, suc, ◌-◌, ◌<◌, ◌≤◌, ⊎_elim, List, [], ◌∷◌, ◌++◌, Bool, true, false, Option, Some, None, length, get_or, take, drop, refl, sym, ap, ◌∙◌, subst, arith, Bor}
use Rattle.std.specs.declared.cmp.Ordering.{Ordering}
use Rattle.std.specs.declared.cmp.Ordering.TheVariants.{Less, Greater}
use Rattle.std.specs.List.{All, AllWithin, list_all, list_any, find, slice_get}
use Rattle.std.specs.List.Sorted.{IsPartitionedBy, IsPartitionPoint}
use Rattle.std.specs.Option.{option_copied, option_or}
use Rattle.std.specs.Ordering.{is_lt, is_eq, is_gt}
use Rattle.std.specs.Slice.{IsItemAt}
use Rattle.std.proofs.lemmas.Bool.{cases_lt}
use Rattle.std.proofs.lemmas.List.{drop_all}
use Rattle.std.proofs.lemmas.List.Elements.{All-nil, All-weaker}
use Rattle.std.proofs.lemmas.List.Sums.{AllPass-from_list_all, list_all-from_AllPass}
use Rattle.std.proofs.lemmas.Option.{slice_get-get_or, slice_get_past}
use Rattle.sorted_blocks.specs.declared.key.Key.{Key}
use Rattle.sorted_blocks.specs.Blocks.{joined, IsFilled, IsBlockOf}
use Rattle.sorted_blocks.specs.Keys.{key_order, Rises}
use Rattle.sorted_blocks.proofs.ListLemmas.{all-joined, pairs-apart, pairs-right, pairs-across, some-fails, joined-at, any-between, find-between}
use Rattle.sorted_blocks.proofs.OrderLemmas.{IsBelow, above-later, below-earlier, lt-less}

-- whether all keys of a block are below a key
abbrev pub is_under : Key → List Key → Bool
is_under key block = list_all (λ other. is_lt (key_order key other)) block

-- blocks that rise are parted by a key
pub parted-blocks : (key : Key) (blocks : List (List Key)) → All IsFilled blocks → Rises (joined blocks) → IsPartitionedBy (is_under key) blocks
parted-blocks key blocks filled rises i j d le within under =
    ⊎_elim (λ (before : i < j).
    let some : 0 < length (get_or blocks j d) = (filled j d within).0 in
    let apart : All (λ x. All (IsBelow x) (get_or blocks j d)) (get_or blocks i d) = pairs-apart IsBelow blocks i j d rises before within in
    let all : All (λ x. is_lt (key_order key x) ≡ true) (get_or blocks j d) = AllPass-from_list_all (λ other. is_lt (key_order key other)) (get_or blocks j d) under in
    list_all-from_AllPass (λ other. is_lt (key_order key other)) (get_or blocks i d) (λ k e lt.
    below-earlier (get_or (get_or blocks i d) k e) (get_or (get_or blocks j d) 0 e) key (apart k e lt 0 e some) (all 0 e some)))
    (λ (after : j ≤ i).
    let same : i ≡ j = omega arith in
    ap (λ (n : ℕ). is_under key (get_or blocks n d)) same ∙ under)
    (cases_lt i j)

-- the keys of blocks that are all below a key
under-before : (key : Key) (blocks : List (List Key)) (at : ℕ) → ((k : ℕ) (d : List Key) → k < at → k < length blocks → is_under key (get_or blocks k d) ≡ true) → All (λ other. key_order key other ≡ Less) (joined (take at blocks))
under-before key blocks at under =
    all-joined (λ other. key_order key other ≡ Less) blocks at (λ k d before within.
    All-weaker (λ other. is_lt (key_order key other) ≡ true) (λ other. key_order key other ≡ Less) (λ other is. lt-less (key_order key other) is) (get_or blocks k d)
    (AllPass-from_list_all (λ other. is_lt (key_order key other)) (get_or blocks k d) (under k d before within)))

-- behind a block that is not all below a key, the keys are above it
above-behind : (key : Key) (blocks : List (List Key)) (at : ℕ) → Rises (joined blocks) → at < length blocks → is_under key (get_or blocks at []) ≡ false → All (λ other. key_order key other ≡ Greater) (joined (drop (suc at) blocks))
above-behind key blocks at rises within over =
    let block : List Key = get_or blocks at [] in
    let rest : List Key = joined (drop (suc at) blocks) in
    let whole : Rises (joined (take at blocks) ++ (block ++ rest)) = subst Rises (joined-at blocks at within) rises in
    let here : Rises (block ++ rest) = pairs-right IsBelow (joined (take at blocks)) (block ++ rest) whole in
    let apart : All (λ x. All (IsBelow x) rest) block = pairs-across IsBelow block rest here in
    let fails = some-fails (λ other. is_lt (key_order key other)) block over in
    λ k d lt. above-later (get_or block fails.0 d) (get_or rest k d) key (key_order key (get_or block fails.0 d)) refl (fails.2 d) (apart fails.0 d fails.1 k d lt)

abbrev ArePartedAt : Key → List (List Key) → ℕ → Type 0
ArePartedAt key blocks at = IsPartitionPoint (λ block. is_under key block ≡ true) (λ block. is_under key block ≡ false) blocks at

-- a key belongs to the first block that is not all below it, or to the last
pub block-found : (key : Key) (blocks : List (List Key)) (at : ℕ) → Rises (joined blocks) → ArePartedAt key blocks at → at < length blocks → IsBlockOf key blocks at
block-found key blocks at rises parts within = record {
  within = within;
  before = under-before key blocks at (λ k d before inside. parts.0 k d (omega arith) before);
  after = above-behind key blocks at rises within (parts.1 at [] (omega arith) within);
}

pub block-last : (key : Key) (blocks : List (List Key)) (at : ℕ) → ArePartedAt key blocks at → 0 < length blocks → at ≤ length blocks → length blocks ≤ at → IsBlockOf key blocks (at - 1)
block-last key blocks at parts some bound past = record {
  within = omega arith;
  before = under-before key blocks (at - 1) (λ k d before inside. parts.0 k d (omega arith) (omega arith));
  after =
      let none : drop (suc (at - 1)) blocks ≡ [] = drop_all (suc (at - 1)) blocks (omega arith) in
      subst (λ (rest : List (List Key)). All (λ other. key_order key other ≡ Greater) (joined rest)) (sym none) (All-nil (λ other. key_order key other ≡ Greater));
}

-- the first key is that of the first block
pub first-of_block : (blocks : List (List Key)) (block : List Key) → All IsFilled blocks → Some block ≡ slice_get blocks 0 → slice_get block 0 ≡ slice_get (joined blocks) 0
first-of_block [] block filled is = (cc)
first-of_block ([] ∷ blocks) block filled is = absurd (let none : 0 < 0 = (filled 0 [] (omega arith)).0 in omega arith)
first-of_block ((key ∷ keys) ∷ blocks) block filled is = let same : block ≡ key ∷ keys = (cc) in ap (λ (b : List Key). slice_get b 0) same

-- whether the blocks have a key is whether its block has it
pub has-of_block : (key : Key) (blocks : List (List Key)) (at : ℕ) → IsBlockOf key blocks at → list_any (λ other. is_eq (key_order key other)) (get_or blocks at []) ≡ list_any (λ other. is_eq (key_order key other)) (joined blocks)
has-of_block key blocks at place =
    sym (ap (list_any (λ other. is_eq (key_order key other))) (joined-at blocks at place.within)
    ∙ any-between (λ other. is_eq (key_order key other)) (joined (take at blocks)) (get_or blocks at []) (joined (drop (suc at) blocks))
    (All-weaker (λ other. key_order key other ≡ Less) (λ other. is_eq (key_order key other) ≡ false) (λ other is. ap is_eq is) (joined (take at blocks)) place.before)
    (All-weaker (λ other. key_order key other ≡ Greater) (λ other. is_eq (key_order key other) ≡ false) (λ other is. ap is_eq is) (joined (drop (suc at) blocks)) place.after))

-- the first key above another is in its block, or the first behind it
pub after-of_block : (key : Key) (blocks : List (List Key)) (at : ℕ) → IsBlockOf key blocks at → find (λ other. is_gt (key_order key other)) (joined blocks) ≡ option_or (find (λ other. is_gt (key_order key other)) (get_or blocks at [])) (slice_get (joined (drop (suc at) blocks)) 0)
after-of_block key blocks at place =
    ap (find (λ other. is_gt (key_order key other))) (joined-at blocks at place.within)
    ∙ find-between (λ other. is_gt (key_order key other)) (joined (take at blocks)) (get_or blocks at []) (joined (drop (suc at) blocks))
    (All-weaker (λ other. key_order key other ≡ Less) (λ other. is_gt (key_order key other) ≡ false) (λ other is. ap is_gt is) (joined (take at blocks)) place.before)
    (All-weaker (λ other. key_order key other ≡ Greater) (λ other. is_gt (key_order key other) ≡ true) (λ other is. ap is_gt is) (joined (drop (suc at) blocks)) place.after)

-- what is read at a place
pub copied-item : {X : Type 0} (xs : List X) (i : ℕ) (read : Option (Bor X)) → IsItemAt xs i read → option_copied read ≡ slice_get xs i
copied-item xs i None item = sym (slice_get_past xs i item.3)
copied-item xs i (Some x) item = sym (slice_get-get_or xs i x.now item.3.0 ∙ ap Some (sym (item.3.1 x.now)))
