-- What the ports of a program show.
use Rattle.std.specs.Prelude.{ℕ, List, Option}

-- the bytes that are left to be read and those that were taken, where they are told, and how often the source and the sink have failed
pub record Ports : Type 0 where
  pub left : Option (List ℕ)
  pub taken : Option (List ℕ)
  pub read_faults : ℕ
  pub write_faults : ℕ

abbrev pub ports_of : Option (List ℕ) → Option (List ℕ) → ℕ → ℕ → Ports
ports_of left taken read_faults write_faults = record { left = left; taken = taken; read_faults = read_faults; write_faults = write_faults }
