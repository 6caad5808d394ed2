use mathlib.Core.Path.{◌≡◌}
use mathlib.Core.Bool.{true, false}
use Prim.Native.Nat.{◌-◌}
use Rattle.expressions.specs.Reading.{is_read}
use Rattle.rules.specs.Bodies.{actions_from}
use Rattle.typing.proofs.Keeping.{left_keep}
use Rattle.typing.proofs.actions_keep.Given as goal

-- what is left is there, and gives the whole
abbrev pub invariant-loop : goal.invariant-loop
invariant-loop l = record {
  there : is_read (actions_from false (l.n - l.counter) l.at l.b) ≡ true;
  left : left_keep false l.b (l.n - l.counter) l.at ≡ left_keep false l.b l.n l.from;
}
