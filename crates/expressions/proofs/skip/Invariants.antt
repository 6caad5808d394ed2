use mathlib.Core.Path.{◌≡◌}
use Prim.Native.Nat.{◌+◌, ◌*◌, ◌-◌, ◌≤◌}
use lib.ListN.{length, drop}
use Rattle.model.specs.Expressions.{expression}
use Rattle.std.specs.Prelude.{Some}
use Rattle.expressions.specs.Reading.{skip_to}
use Rattle.expressions.proofs.Reading.{ends}
use Rattle.expressions.proofs.skip.Given as goal

-- what is left ends where the whole does
abbrev pub invariant-loop-left : goal.invariant-loop-left
invariant-loop-left l = (l.left ≤ 1 + 2 * l.at) × (ends l.left l.at l.s ≡ Some (skip_to l.from (expression (drop l.from l.s))))

abbrev pub decreases-loop-left : goal.decreases-loop-left
decreases-loop-left l = length l.s - l.at
