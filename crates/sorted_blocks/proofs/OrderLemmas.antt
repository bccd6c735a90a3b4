-- Lemmas on the order of keys, and on keys that rise.
use Rattle.std.proofs.Common.{◌≡◌, ℕ, suc, ◌<◌, ◌≤◌, ◌-◌, ◌⊎◌, inl, inr, ⊎_elim, List, [], ◌∷◌, ◌++◌, ◌+◌, Bool, true, false, not, Ok, Err, Result, length, get_or, take, drop, refl, sym, ap, ◌∙◌, subst, arith}
use Rattle.std.specs.declared.cmp.Ordering.{Ordering}
use Rattle.std.specs.declared.cmp.Ordering.TheVariants.{Less, Equal, Greater}
use Rattle.std.specs.Cmp.{IsTotalOrder}
use Rattle.std.specs.List.{All, AllPairs, list_all, list_any, find, slice_get, position_or_len}
use Rattle.std.specs.Ordering.{nat_cmp, ordering_reverse, match_ordering, is_lt, is_eq, is_gt}
use Rattle.std.specs.Result.{is_ok}
use Rattle.std.proofs.lemmas.Bool.{cases_lt}
use Rattle.std.proofs.lemmas.Cmp.{nat_cmp_total, on_total, then_total, alike_right}
use Rattle.std.proofs.lemmas.List.{get_or_default, take-append-drop}
use Rattle.std.proofs.lemmas.List.Elements.{All-nil, All-cons, All-tail, All-weaker}
use Rattle.std.proofs.lemmas.List.Folds.{list_all_at, find_at}
use Rattle.std.proofs.lemmas.List.Kept.{AllPairs-cons, AllPairs-filter}
use Rattle.std.proofs.lemmas.List.Sums.{list_all-from_AllPass}
use Rattle.rising_rows.specs.Seats.{put_by, IsSplitBy, IsBetween, IsSeat}
use Rattle.rising_rows.proofs.PlaceLemmas.{first-at}
use Rattle.rising_rows.proofs.PutLemmas.{All-put}
use Rattle.rising_rows.proofs.SeatLemmas.{any-found, any-absent}
use Rattle.sorted_blocks.specs.declared.key.Key.{Key}
use Rattle.sorted_blocks.specs.Keys.{key_cmp, key_order, Rises, with_key, without_key}
use Rattle.sorted_blocks.proofs.ListLemmas.{pairs-head, pairs-tail, pairs-left, pairs-right}

-- one key is below another
abbrev pub IsBelow : Key → Key → Type 0
IsBelow key later = key_cmp key later ≡ Less

pub key_cmp-total : IsTotalOrder key_cmp
key_cmp-total = then_total (on_total (λ (key : Key). key.time) nat_cmp_total) (on_total (λ (key : Key). key.id) nat_cmp_total)

-- above a key that is not below a third, a key is above the third
pub above-later : (a b key : Key) (o : Ordering) → key_order key a ≡ o → is_lt o ≡ false → IsBelow a b → key_order key b ≡ Greater
above-later a b key Less is not_less below = (cc)
above-later a b key Equal is not_less below =
    let under : key_cmp key b ≡ Less = sym (key_cmp-total.congr a key b is) ∙ below in
    key_cmp-total.antisymm b key ∙ ap ordering_reverse under
above-later a b key Greater is not_less below =
    let least : key_cmp key a ≡ Less = key_cmp-total.antisymm key a ∙ ap ordering_reverse is in
    let under : key_cmp key b ≡ Less = key_cmp-total.trans key a b least below in
    key_cmp-total.antisymm b key ∙ ap ordering_reverse under

pub lt-less : (o : Ordering) → is_lt o ≡ true → o ≡ Less
lt-less Less is = refl
lt-less Equal is = (cc)
lt-less Greater is = (cc)

-- below a key that is below a third, a key is below the third
pub below-earlier : (a b key : Key) → IsBelow a b → is_lt (key_order key b) ≡ true → is_lt (key_order key a) ≡ true
below-earlier a b key below is = ap is_lt (key_cmp-total.trans a b key below (lt-less (key_order key b) is))

-- keys that rise are split by a key
pub split-rising : (key : Key) (keys : List Key) → Rises keys → IsSplitBy (key_order key) keys
split-rising key keys rises i j d before within = by (key_order key (get_or keys i d)) refl
  where
    by : (o : Ordering) → key_order key (get_or keys i d) ≡ o → (key_order key (get_or keys i d) ≡ Less) ⊎ (key_order key (get_or keys j d) ≡ Greater)
    by Less is = inl is
    by Equal is = inr (above-later (get_or keys i d) (get_or keys j d) key Equal is refl (rises i j d before within))
    by Greater is = inr (above-later (get_or keys i d) (get_or keys j d) key Greater is refl (rises i j d before within))

-- keys that rise still rise with one put among them
pub rises-put : (key : Key) (keys : List Key) → Rises keys → Rises (with_key key keys)
rises-put key [] rises = AllPairs-cons IsBelow key [] (All-nil (IsBelow key)) rises
rises-put key (first ∷ keys) rises =
    by (key_order key first) refl (rises-put key keys (pairs-tail IsBelow first keys rises))
  where
    later : All (IsBelow first) keys
    later = pairs-head IsBelow first keys rises

    rest : Rises keys
    rest = pairs-tail IsBelow first keys rises

    by : (o : Ordering) → key_order key first ≡ o → Rises (with_key key keys) → Rises (match_ordering o (first ∷ with_key key keys) (key ∷ keys) (key ∷ first ∷ keys))
    by Less is more =
        AllPairs-cons IsBelow first (with_key key keys) (All-put (IsBelow first) (key_order key) key keys later is) more
    by Equal is more =
        AllPairs-cons IsBelow key keys (All-weaker (IsBelow first) (IsBelow key) (λ other below. sym (key_cmp-total.congr first key other is) ∙ below) keys later) rest
    by Greater is more =
        let here : IsBelow key first = key_cmp-total.antisymm key first ∙ ap ordering_reverse is in
        AllPairs-cons IsBelow key (first ∷ keys)
        (All-cons (IsBelow key) first keys here (All-weaker (IsBelow first) (IsBelow key) (λ other below. key_cmp-total.trans key first other here below) keys later))
        rises

pub rises-without : (key : Key) (keys : List Key) → Rises keys → Rises (without_key key keys)
rises-without key keys rises = AllPairs-filter IsBelow (λ other. not (is_eq (key_order key other))) keys rises

pub rises-drop : (count : ℕ) (keys : List Key) → Rises keys → Rises (drop count keys)
rises-drop count keys rises = pairs-right IsBelow (take count keys) (drop count keys) (subst Rises (sym (take-append-drop count keys)) rises)

-- all keys that rise are below one where the last of them is
pub below-last : (key : Key) (keys : List Key) (last : Key) → Rises keys → 0 < length keys → last ≡ get_or keys (length keys - 1) last → list_all (λ other. is_lt (key_order key other)) keys ≡ is_lt (key_order key last)
below-last key keys last rises some is = by (is_lt (key_order key last)) refl
  where
    here : (d : Key) → get_or keys (length keys - 1) d ≡ last
    here d = get_or_default keys (length keys - 1) d last (omega arith) ∙ sym is

    by : (b : Bool) → is_lt (key_order key last) ≡ b → list_all (λ other. is_lt (key_order key other)) keys ≡ b
    by true below =
        list_all-from_AllPass (λ other. is_lt (key_order key other)) keys (λ k d lt.
        ⊎_elim (λ (before : k < length keys - 1).
        let under : IsBelow (get_or keys k d) (get_or keys (length keys - 1) d) = rises k (length keys - 1) d before (omega arith) in
        below-earlier (get_or keys k d) (get_or keys (length keys - 1) d) key under (ap (λ other. is_lt (key_order key other)) (here d) ∙ below))
        (λ (after : length keys - 1 ≤ k).
        let same : k ≡ length keys - 1 = omega arith in
        ap (λ (n : ℕ). is_lt (key_order key (get_or keys n d))) same ∙ ap (λ other. is_lt (key_order key other)) (here d) ∙ below)
        (cases_lt k (length keys - 1)))
    by false above =
        list_all_at (λ other. is_lt (key_order key other)) keys (length keys - 1) last (omega arith) (ap (λ other. is_lt (key_order key other)) (here last) ∙ above)

-- a list has a key where it has a seat for it
pub any-seat : (key : Key) (keys : List Key) (seat : Result ℕ ℕ) → IsSeat (key_order key) keys seat → is_ok seat ≡ list_any (λ other. is_eq (key_order key other)) keys
any-seat key keys (Ok at) seat = sym (any-found (key_order key) keys at seat)
any-seat key keys (Err at) seat = sym (any-absent (key_order key) keys at seat.1)

-- the first key above one stands behind its seat
pub after-found : (key : Key) (keys : List Key) (at : ℕ) → IsSeat (key_order key) keys (Ok at) → find (λ other. is_gt (key_order key other)) keys ≡ slice_get keys (suc at)
after-found key keys at seat =
    find_at (λ other. is_gt (key_order key other)) keys
    ∙ ap (slice_get keys) (first-at (λ other. is_gt (key_order key other)) keys (suc at) (let lt : at < length keys = seat.0 in omega arith)
    (λ k d lt.
    ⊎_elim (λ (before : k < at). ap is_gt (seat.2.0 k d (omega arith) before))
    (λ (after : at ≤ k).
    let same : k ≡ at = omega arith in
    ap (λ (n : ℕ). is_gt (key_order key (get_or keys n d))) same ∙ ap is_gt (seat.1 d))
    (cases_lt k at))
    (λ d lt. ap is_gt (seat.2.1 (suc at) d (omega arith) lt)))

pub after-absent : (key : Key) (keys : List Key) (at : ℕ) → IsSeat (key_order key) keys (Err at) → find (λ other. is_gt (key_order key other)) keys ≡ slice_get keys at
after-absent key keys at seat =
    find_at (λ other. is_gt (key_order key other)) keys
    ∙ ap (slice_get keys) (first-at (λ other. is_gt (key_order key other)) keys at seat.0
    (λ k d lt. ap is_gt (seat.1.0 k d (omega arith) lt))
    (λ d lt. ap is_gt (seat.1.1 at d (omega arith) lt)))

-- a key that is put is one more at most
pub length-put : (key : Key) (keys : List Key) → (length keys ≤ length (with_key key keys)) × (length (with_key key keys) ≤ length keys + 1) × (0 < length (with_key key keys))
length-put key [] = (omega arith, omega arith, omega arith)
length-put key (first ∷ keys) = by (key_order key first) (length-put key keys)
  where
    by : (o : Ordering) → (length keys ≤ length (with_key key keys)) × (length (with_key key keys) ≤ length keys + 1) × (0 < length (with_key key keys))
        → (suc (length keys) ≤ length (match_ordering o (first ∷ with_key key keys) (key ∷ keys) (key ∷ first ∷ keys))) × (length (match_ordering o (first ∷ with_key key keys) (key ∷ keys) (key ∷ first ∷ keys)) ≤ suc (length keys) + 1) × (0 < length (match_ordering o (first ∷ with_key key keys) (key ∷ keys) (key ∷ first ∷ keys)))
    by Less rest = (omega arith, omega arith, omega arith)
    by Equal rest = (omega arith, omega arith, omega arith)
    by Greater rest = (omega arith, omega arith, omega arith)
