use mathlib.Core.Path.{refl}
use Rattle.model.specs.Expressions.{type_at}
use Rattle.tokens.proofs.type_at.Goals as goal

pub returns : goal.returns
unfolding type_at
returns c = rw (c.byte_at-kind.ensures, c.byte_at-p.ensures) refl
