-- What the calls do that look after an executor: runs that last too long, saved results, lines of old logs.
use Rattle.std.specs.Prelude.{◌≡◌, ℕ, ◌-◌, nat_le, if◌then◌else◌, List, [], ◌∷◌, Option, None, Some, Result, Ok, Err, IsErr}
use Rattle.job_values.specs.declared.no_memory.NoMemory.{NoMemory}
use Rattle.job_events.specs.declared.executor.ExecutorEvent.TheVariants as event
use Rattle.job_events.specs.declared.executor.ExecutorReply.TheVariants as reply
use Rattle.executor_node.specs.Standing.{Entry}
use Rattle.executor_calls.specs.declared.tend.TendDone.{TendDone}

-- one Expire, and how many runs were given their result
abbrev pub ExpireGave : ℕ → List Entry → Result ℕ NoMemory → Type 0
ExpireGave at [] result = IsErr result
ExpireGave at (e ∷ []) result = (e.0 ≡ event.Expire at) × ((n : ℕ) × (e.1 ≡ reply.Expired n) × (result ≡ Ok n))
ExpireGave at (e ∷ f ∷ es) result = ⊥

-- the moment 30 days before, if there is one
abbrev pub trim_moment : ℕ → Option ℕ
trim_moment at = if nat_le 2592000000 at then Some (at - 2592000000) else None

-- one Trim, where there is such a moment, behind a Reload that made so many items wait again
abbrev pub TrimGave : Option ℕ → ℕ → List Entry → Result TendDone NoMemory → Type 0
TrimGave None n es result = (es ≡ []) × (result ≡ Ok (record { reloaded = n; trimmed = 0 }))
TrimGave (Some t) n [] result = IsErr result
TrimGave (Some t) n (e ∷ []) result = (e.0 ≡ event.Trim t) × ((m : ℕ) × (e.1 ≡ reply.Trimmed m) × (result ≡ Ok (record { reloaded = n; trimmed = m })))
TrimGave (Some t) n (e ∷ f ∷ es) result = ⊥

-- one Reload, and then the Trim
abbrev pub TendGave : ℕ → List Entry → Result TendDone NoMemory → Type 0
TendGave at [] result = IsErr result
TendGave at (e ∷ es) result = (e.0 ≡ event.Reload) × ((n : ℕ) × (e.1 ≡ reply.Reloaded n) × TrimGave (trim_moment at) n es result)
