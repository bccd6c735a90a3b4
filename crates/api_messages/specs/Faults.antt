-- The numbers of the faults, as an answer names them.
use Rattle.std.specs.Prelude.{ℕ}
use Rattle.api_messages.specs.declared.fault.MessageFault.{MessageFault}
use Rattle.api_messages.specs.declared.fault.MessageFault.TheVariants as faults

abbrev pub fault_number : MessageFault → ℕ
fault_number faults.NotJson = 1
fault_number faults.WrongShape = 2
fault_number (faults.Member which) = 3
fault_number faults.TooLong = 4
fault_number faults.NoMemory = 5
