use mathlib.Core.Path.{◌≡◌}
use mathlib.Core.Bool.{true, false}
use Prim.Native.Nat.{◌-◌}
use lib.ListN.{get_or}
use Rattle.model.specs.Values.{no_type}
use Rattle.model.specs.Rules.{matched_types}
use Rattle.expressions.specs.Reading.{is_read}
use Rattle.shapes.specs.Shapes.{types_in}
use Rattle.rules.specs.Bodies.{patterns_from}
use Rattle.typing.specs.Fits.{list_read}
use Rattle.typing.proofs.Patterns.{left_matched}
use Rattle.typing.proofs.matched_type.Given as goal

-- what is left is there, and has the type sought
abbrev pub invariant-loop : goal.invariant-loop
invariant-loop l = record {
  there : is_read (patterns_from false (l.n - l.counter) l.at l.b) ≡ true;
  left : get_or (left_matched l.b l.ins l.n l.counter l.at) (l.k - l.counter) no_type ≡ get_or (matched_types (types_in l.ins l.n) (list_read (patterns_from false l.n 0 l.b))) l.k no_type;
}
