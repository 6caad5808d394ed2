use Rattle.model.specs.Expressions.{type_at}
use Rattle.shapes.proofs.type_at.Goals as goal

pub returns : goal.returns
unfolding type_at
returns c = λ i. record { kind = c.byte_at.ensures i; p = c.byte_at-2.ensures i }
