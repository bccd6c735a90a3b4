-- The stops behind a place.
use Rattle.std.specs.Prelude.{ℕ, ◌+◌, ◌==◌, Bool, true, false, ◌&&◌, ◌||◌, nat_lt}
use Rattle.job_events.specs.declared.cluster.ClusterEvent.{ClusterEvent}
use Rattle.job_events.specs.declared.cluster.ClusterEvent.TheVariants.{NodeStop, Reopen}
use Rattle.cluster_history.specs.History.{History, Begin, After, places}

-- whether an event stops an admin: as its stop, or as the stop of all
abbrev pub stops : ClusterEvent → ℕ → Bool
stops (NodeStop admin) a = a == admin
stops Reopen a = true
stops _ a = false

-- whether an entry behind a place stops an admin
abbrev pub stopped_since : History → ℕ → ℕ → Bool
stopped_since (Begin o) place a = false
stopped_since (After h e r) place a = (nat_lt place (places h + 1) && stops e a) || stopped_since h place a
