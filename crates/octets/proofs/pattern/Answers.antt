use mathlib.Core.Path.{◌∙◌}
use native.Mathlib.Omega.{arith}
use Rattle.octets.proofs.Laws.{pattern_is}
use Rattle.octets.proofs.pattern.Goals as goal

pub returns : goal.returns
returns c = (c.cast_unsigned.ensures ∙ pattern_is c.args.z c.requires, omega arith)
