use mathlib.Core.Path.{◌≡◌}
use mathlib.Core.Bool.{true, false}
use Prim.Native.Nat.{◌-◌}
use Rattle.expressions.specs.Reading.{is_read}
use Rattle.rules.specs.Bodies.{actions_from}
use Rattle.matching.proofs.Laws.{left}
use Rattle.matching.proofs.outs_open.Given as goal

-- what is left is there, and gives the whole
abbrev pub invariant-loop-k : goal.invariant-loop-k
invariant-loop-k l = record {
  there : is_read (actions_from false (l.n - l.k) l.at l.b) ≡ true;
  left : left l.full l.b l.k l.at (l.n - l.k) ≡ left l.full l.b 0 l.from l.n;
}
