use native.Mathlib.Omega.{arith}
use Rattle.model.specs.Expressions.{expression}
use Rattle.types.proofs.Leaves.{limits_fit}
use Rattle.types.proofs.type_of.Goals as goal

pub type_at-requires : goal.type_at-requires
type_at-requires c = record { inside = omega arith; fits = limits_fit (expression c.args.s.now) c.requires }

pub returns : goal.returns
returns c = c.type_at.ensures
