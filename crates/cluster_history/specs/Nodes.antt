-- The admins.
use Rattle.std.specs.Prelude.{ℕ, ◌==◌, List, Bool, true, false, if◌then◌else◌}
use Rattle.std.specs.List.{range_with_len}
use Rattle.job_events.specs.declared.cluster.ClusterEvent.TheVariants.{NodeStart, NodeStop, Reopen}
use Rattle.job_values.specs.declared.limits.TheConstants.{ADMINS}
use Rattle.cluster_history.specs.History.{History, Begin, After}

-- an admin runs from its start on, to its stop or the stop of all
abbrev pub runs : History → ℕ → Bool
runs (Begin o) a = false
runs (After h (NodeStart admin) r) a = if a == admin then true else runs h a
runs (After h (NodeStop admin) r) a = if a == admin then false else runs h a
runs (After h Reopen r) a = false
runs (After h _ r) a = runs h a

-- the numbers of the admins
abbrev pub admins : List ℕ
admins = range_with_len 0 ADMINS
