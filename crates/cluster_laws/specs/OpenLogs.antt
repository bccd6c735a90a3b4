-- The logs of an admin that have no trigger code yet.
use Rattle.std.specs.Prelude.{◌≡◌, ℕ, ◌==◌, length, count_by}
use Rattle.cluster_history.specs.History.{History, accepted}
use Rattle.cluster_history.specs.Logs.{open_ids, open_at}
use Rattle.cluster_history.specs.Orders.{held_by}
use Rattle.cluster_history.specs.Runs.{IsLegal}

-- they are those that it has, in its pools and taken, each as often, and so as many: what a stop of the admin ends
pub record OpenAreHeld (h : History) (a : ℕ) : Type 0 where
  pub each : (n : ℕ) → count_by (λ id. id == n) (open_ids h a) ≡ count_by (λ id. id == n) (held_by h a)
  pub count : open_at h a ≡ length (held_by h a)

-- so in every legal history
abbrev pub EachOpenHeld : Type 0
EachOpenHeld = (h : History) → IsLegal h → (a : ℕ) → OpenAreHeld (accepted h) a
