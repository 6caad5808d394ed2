use mathlib.Core.Path.{◌≡◌}
use mathlib.Core.Bool.{true, false}
use Prim.Native.Nat.{◌-◌}
use Rattle.expressions.specs.Reading.{is_read}
use Rattle.rules.specs.Bodies.{patterns_from}
use Rattle.typing.proofs.Patterns.{left_fit, all_fit}
use Rattle.typing.proofs.patterns_fit.Given as goal

-- what is left is there, and gives the whole
abbrev pub invariant-loop-k : goal.invariant-loop-k
invariant-loop-k l = record {
  there : is_read (patterns_from false (l.n - l.k) l.at l.b) ≡ true;
  left : left_fit false l.b l.types l.n l.k l.at ≡ all_fit false l.b l.types l.n l.from;
}
