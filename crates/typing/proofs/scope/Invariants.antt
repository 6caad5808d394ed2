use mathlib.Core.Path.{◌≡◌}
use mathlib.Core.Bool.{false}
use Prim.Native.Nat.{ℕ, ◌+◌, ◌*◌, ◌<◌}
use lib.ListN.{get_or, length}
use Rattle.model.specs.Values.{no_type}
use Rattle.model.specs.Expressions.{type_at}
use Rattle.model.specs.Rules.{matched_types}
use Rattle.shapes.specs.Shapes.{types_in}
use Rattle.rules.specs.Bodies.{patterns_from}
use Rattle.typing.specs.Fits.{list_read}
use Rattle.typing.proofs.scope.Given as goal

-- the types of the first inputs and variables
abbrev pub invariant-loop-k : goal.invariant-loop-k
invariant-loop-k l = record {
  size : length l.types ≡ 16;
  inputs : (j : ℕ) → j < l.k → type_at l.types (2 * j) ≡ get_or (matched_types (types_in l.ins l.a.ins) (list_read (patterns_from false l.a.ins 0 l.b))) j no_type;
  variables : (j : ℕ) → j < l.k → type_at l.types (8 + 2 * j) ≡ get_or (types_in l.vars l.a.vars) j no_type;
}
