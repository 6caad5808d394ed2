use mathlib.Core.Path.{◌≡◌}
use Prim.Native.Nat.{◌+◌, ◌*◌, ◌-◌, ◌≤◌}
use lib.ListN.{length, drop}
use Rattle.model.specs.Expressions.{expression}
use Rattle.expressions.specs.Reading.{end_from}
use Rattle.expressions.proofs.Reading.{ends}
use Rattle.expressions.proofs.end_of.Given as goal

abbrev pub invariant-loop-pending : goal.invariant-loop-pending
invariant-loop-pending l = (l.at ≤ length l.s) × ((l.pending ≤ 1 + 2 * l.at) × (ends l.pending l.at l.s ≡ end_from l.from (expression (drop l.from l.s))))

abbrev pub decreases-loop-pending : goal.decreases-loop-pending
decreases-loop-pending l = length l.s - l.at
