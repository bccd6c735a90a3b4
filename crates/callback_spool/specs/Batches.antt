-- How many of the waiting items a batch takes.
use Rattle.std.specs.Prelude.{ℕ, ◌+◌, ◌&&◌, ◌≤◌, nat_lt, nat_le, if◌then◌else◌, List, [], ◌∷◌, length, take, sum_by}
use Rattle.job_values.specs.declared.run.CallbackItem.{CallbackItem}
use Rattle.job_values.specs.declared.limits.TheConstants.{BATCH_ITEMS, BATCH_BYTES}

-- how many of these items go on into a batch that has so many items and bytes of text: as long as both stay within their limits
abbrev pub fitting : ℕ → ℕ → List CallbackItem → ℕ
fitting count bytes [] = 0
fitting count bytes (item ∷ items) =
    if nat_lt count BATCH_ITEMS && nat_le (bytes + length item.msg) BATCH_BYTES then 1 + fitting (count + 1) (bytes + length item.msg) items else 0

-- how many of the waiting items the next batch takes
abbrev pub batch_len : List CallbackItem → ℕ
batch_len items = fitting 0 0 items

-- the bytes of text of these items
abbrev pub text_bytes : List CallbackItem → ℕ
text_bytes items = sum_by (λ item. length item.msg) items

-- the first so many items are within both limits, and no longer prefix is
pub record IsLongest (items : List CallbackItem) (n : ℕ) : Type 0 where
  pub few : n ≤ BATCH_ITEMS
  pub small : text_bytes (take n items) ≤ BATCH_BYTES
  pub longest : (m : ℕ) → m ≤ length items → m ≤ BATCH_ITEMS → text_bytes (take m items) ≤ BATCH_BYTES → m ≤ n
