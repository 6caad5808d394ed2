use Rattle.std.proofs.Common.{ℕ, ◌*◌, ◌<◌}
use Rattle.model.specs.Expressions.{type_at}
use Rattle.shapes.proofs.put_types.Given as goal

-- The types laid so far are those that the calls gave. Assumes nothing.
abbrev pub invariant-loop-k : goal.invariant-loop-k
invariant-loop-k g l = (j : ℕ) → j < l.k → goal.F-post g l.of j (type_at l.types (2 * j))
