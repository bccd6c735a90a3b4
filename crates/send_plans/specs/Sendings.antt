-- What is prepared for a sending.
use Rattle.std.specs.Prelude.{ℕ, ℤ, List, [], ◌∷◌, bytes_eq, Bool, not, Option, Some, None}
use Rattle.std.specs.List.{list_any}
use Rattle.std.specs.Ordering.{int_eq}
use Rattle.job_values.specs.declared.limits.TheConstants.{SUCCESS}
use Rattle.job_events.specs.declared.cluster.ClusterReply.TheVariants.{Done}
use Rattle.job_records.specs.declared.change.Change.TheVariants.{PutLog}
use Rattle.job_records.specs.declared.log.Log.{Log}
use Rattle.cluster_plan.specs.declared.prepared.NodeChange.TheVariants as node
use Rattle.cluster_plan.specs.Prepared.{PreparedEvent}

-- whether a log may be sent so: to an address that was given, or to none without success
abbrev pub is_given : Option (List ℕ) → ℤ → List (List ℕ) → Bool
is_given None code given = not (int_eq code SUCCESS)
is_given (Some address) code given = list_any (λ one. bytes_eq one address) given

-- the log with this row was sent by an admin that took it, from a moment to another
abbrev pub sending : ℕ → Log → ℕ → ℕ → PreparedEvent
sending admin sent start end = record {
  reply = Done;
  changes = PutLog sent ∷ [];
  node = node.Sends admin sent.id sent.job start end;
}
