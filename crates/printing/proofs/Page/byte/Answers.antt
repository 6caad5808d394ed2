use mathlib.Core.Path.{refl}
use native.Mathlib.Omega.{arith}
use Rattle.printing.proofs.Pages.{byte_laid, page-full}
use Rattle.printing.proofs.Page.byte.Goals as goal

pub returns-then-self : goal.returns-then-self
returns-then-self c = record { same = refl; laid = byte_laid _ _ _ (omega arith) }

pub returns-else-self : goal.returns-else-self
returns-else-self c = record { same = refl; laid = page-full _ _ _ (omega arith) }
