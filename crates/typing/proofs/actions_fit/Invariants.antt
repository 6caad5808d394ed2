use mathlib.Core.Path.{◌≡◌}
use mathlib.Core.Bool.{true, false}
use Prim.Native.Nat.{◌-◌}
use Rattle.types.specs.Scopes.{scope_in}
use Rattle.rules.specs.Bodies.{actions_from, limits_of}
use Rattle.typing.proofs.Actions.{left_acts, all_acts}
use Rattle.typing.proofs.actions_fit.Given as goal

-- what is left keeps the limits, and gives the whole
abbrev pub invariant-loop-k : goal.invariant-loop-k
invariant-loop-k l = record {
  limits : limits_of (actions_from false (l.n - l.k) l.at l.b) ≡ true;
  left : left_acts false l.b (scope_in l.types) l.table l.n l.k l.at ≡ all_acts false l.b (scope_in l.types) l.table l.n l.from;
}
