-- The numbers that document 01 gives to faults and to refusals.
-- Assumes nothing.
use Rattle.std.specs.Prelude.{ℕ, Result, Ok, Err, ⊤}
use Rattle.model.specs.declared.Fault.{Fault}
use Rattle.model.specs.declared.Fault.TheVariants as fault
use Rattle.model.specs.declared.Reason.{Reason}
use Rattle.model.specs.declared.Reason.TheVariants as reason

unfoldable pub fault_number : Fault → ℕ  -- a zero divisor
fault_number fault.ZeroDivisor = 9

unfoldable pub reason_number : Reason → ℕ  -- 1 to 8, or a fault's
reason_number reason.Form = 1
reason_number reason.Limits = 2
reason_number reason.Ports = 3
reason_number reason.Types = 4
reason_number reason.Tokens = 5
reason_number reason.Space = 6
reason_number reason.State = 7
reason_number reason.Order = 8
reason_number (reason.Fault f) = fault_number f

unfoldable pub fault_said : Result ⊤ Reason → ℕ  -- of a check: 0 where all holds
fault_said (Ok u) = 0
fault_said (Err r) = reason_number r
