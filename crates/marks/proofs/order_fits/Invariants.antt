use mathlib.Core.Path.{◌≡◌}
use Prim.Native.Nat.{◌≤◌}
use lib.ListN.{drop}
use Rattle.model.specs.Cycles.{is_order}
use Rattle.marks.proofs.order_fits.Given as goal

-- What is left of the set, and the part of the order that is left, give the answer of the whole.
-- Assumes nothing.
abbrev pub invariant-loop-k : goal.invariant-loop-k
invariant-loop-k l = (l.left ≤ l.set) × (is_order l.set l.order ≡ is_order l.left (drop l.k-index l.order))
