use mathlib.Core.Path.{ap, ◌∙◌}
use native.Mathlib.Omega.{arith}
use mir.Syntax.{w64}
use mir.Val.{to_z}
use mir.Facts.{to_z_pos}
use Rattle.values.proofs.Machine.{shl_one, pow_62}
use Rattle.values.proofs.power.Goals as goal

pub overflow_cast-result : goal.overflow_cast-result
overflow_cast-result c = record { sfits = omega arith }

pub returns : goal.returns
returns c = ap (to_z w64) (shl_one c.args.p (omega arith)) ∙ to_z_pos w64 (omega (arith, pow_62 c.requires))
