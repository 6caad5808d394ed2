-- The only fault is a zero divisor.
-- Assumes nothing.
use mathlib.Core.Path.{◌≡◌, refl}
use Rattle.model.specs.declared.Fault.{Fault}
use Rattle.model.specs.declared.Fault.TheVariants.{ZeroDivisor}
use Rattle.model.specs.Reasons.{fault_number}

pub the_number : (f : Fault) → 9 ≡ fault_number f
unfolding fault_number
the_number ZeroDivisor = refl
