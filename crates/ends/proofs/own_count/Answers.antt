use mathlib.Core.Path.{◌∙◌, ap}
use mathlib.Core.List.{List}
use Prim.Native.Nat.{ℕ}
use Rattle.model.specs.Bytes.{two_at}
use Rattle.ends.proofs.own_count.Goals as goal

pub returns : goal.returns
returns c = c.two_at.ensures.0 ∙ ap (λ (y : List ℕ). two_at y 0) c.own_part-part.ensures
