use native.Mathlib.Omega.{arith}
use mathlib.Core.Path.{refl}
use Rattle.octets.proofs.Laws.{part_bytes}
use Rattle.octets.proofs.part.Goals as goal

pub returns : goal.returns
returns c = record { block = refl; place = omega arith; bytes = part_bytes _ _ _ }
