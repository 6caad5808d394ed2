use Prim.Native.Nat.{◌<◌, ◌+◌}
use mathlib.Core.Path.{◌≡◌}
use lib.ListN.{length, drop}
use Rattle.model.specs.Printing.{digits_from, decimal}
use Rattle.printing.proofs.Page.decimal.Given as goal

abbrev pub invariant-loop-first : goal.invariant-loop-first
invariant-loop-first l = (l.first < 20) × (length l.digits ≡ 20) × (digits_from l.first l.n (drop (l.first + 1) l.digits) ≡ decimal l.number)

abbrev pub decreases-loop-first : goal.decreases-loop-first
decreases-loop-first l = l.first
