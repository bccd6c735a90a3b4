-- What a set of ids is seen as.
use Rattle.std.specs.Prelude.{ℕ, List, [], ◌∷◌}
use Rattle.executor_history.specs.Past.{put_id}

-- the ids, rising, and how many more can be put without memory
pub record IdsView : Type 0 where
  pub ids : List ℕ
  pub room : ℕ

-- these ids put one after another among rising ones
abbrev pub in_rise : List ℕ → List ℕ → List ℕ
in_rise [] ids = ids
in_rise (key ∷ keys) ids = in_rise keys (put_id key ids)
