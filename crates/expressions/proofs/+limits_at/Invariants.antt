use Rattle.std.proofs.Common.{◌≡◌, ◌-◌, ◌≤◌, length, drop}
use Rattle.model.specs.Expressions.{expression}
use Rattle.expressions.specs.Reading.{limits_at}
use Rattle.expressions.proofs.Depths.{limits_from}
use Rattle.expressions.proofs.+limits_at.Given as goal

abbrev pub decreases-limits_at : goal.decreases-limits_at
decreases-limits_at l = l.depth

-- the operands that are left
abbrev pub invariant-loop : goal.invariant-loop
invariant-loop l = record {
  inside : l.next ≤ length l.s;
  same : limits_from (l.end - l.counter) (l.depth - 1) l.next l.s ≡ limits_at l.at l.depth (expression (drop l.at l.s));
}
