-- What a machine is seen as.
use Rattle.std.specs.Prelude.{◌≡◌, Option, IfSome}
use Rattle.job_records.specs.Tables.{Tables}
use Rattle.cluster_core.specs.Kept.{ClusterState}

-- a machine: its cluster, and the keeper of its rows
pub record MachineView (K : Type 0) : Type 0 where
  pub cluster : ClusterState
  pub keeper : K

-- what a keeper holds is these rows, where it tells what it holds
abbrev pub Holds : Option Tables → Tables → Type 0
Holds held rows = IfSome held (λ t. t ≡ rows)
