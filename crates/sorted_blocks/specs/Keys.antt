-- Keys in rising order, and what a set of them is seen as.
use Rattle.std.specs.Prelude.{◌≡◌, ℕ, List, Bool, Option, AllPairs, filter, find, not}
use Rattle.std.specs.declared.cmp.Ordering.{Ordering}
use Rattle.std.specs.declared.cmp.Ordering.TheVariants.{Less}
use Rattle.std.specs.List.{list_any}
use Rattle.std.specs.Ordering.{nat_cmp, ordering_then, is_eq, is_gt}
use Rattle.rising_rows.specs.Seats.{put_by}
use Rattle.sorted_blocks.specs.declared.key.Key.{Key}

-- how a key compares with another: by the times, then by the ids
abbrev pub key_cmp : Key → Key → Ordering
key_cmp key other = ordering_then (nat_cmp key.time other.time) (nat_cmp key.id other.id)

-- how the others compare with a key
abbrev pub key_order : Key → Key → Ordering
key_order key other = key_cmp other key

-- each key is below those behind it
abbrev pub Rises : List Key → Type 0
Rises keys = AllPairs (λ key later. key_cmp key later ≡ Less) keys

-- whether a key is among others
abbrev pub has_key : Key → List Key → Bool
has_key key keys = list_any (λ other. is_eq (key_order key other)) keys

-- the first key above this one
abbrev pub key_above : Key → List Key → Option Key
key_above key keys = find (λ other. is_gt (key_order key other)) keys

-- the keys with this one, which stands there once
abbrev pub with_key : Key → List Key → List Key
with_key key keys = put_by (key_order key) key keys

-- the keys but for this one
abbrev pub without_key : Key → List Key → List Key
without_key key keys = filter (λ other. not (is_eq (key_order key other))) keys

-- the keys in rising order, and how many may be put without memory
pub record SortedKeys : Type 0 where
  pub keys : List Key
  pub room : ℕ
