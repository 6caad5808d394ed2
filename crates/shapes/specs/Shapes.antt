-- A box's shape laid out in bytes: kind and precision of each type, for inputs, outputs and variables apart.
-- Assumes nothing.
use Rattle.std.specs.Prelude.{ℕ, ◌+◌, ◌*◌, ◌≤◌, ◌<◌, ◌≡◌, List, map, length, get_or, take}
use Rattle.model.specs.declared.Ty.{Ty}
use Rattle.model.specs.Bytes.{two_at}
use Rattle.model.specs.Expressions.{type_at}
use Rattle.model.specs.Rules.{Shape}
use Rattle.model.specs.Network.{Wire, no_wire}
use Rattle.model.specs.NetworkFile.{tabulate, variable_start, body_at, wire_of}
use Rattle.shapes.specs.declared.Arity.{Arity}

-- the first n types are those of f
pub record Lays (t : List ℕ) (n : ℕ) (f : ℕ → Ty) : Type 0 where
  pub each : (k : ℕ) → k < n → type_at t (2 * k) ≡ f k

-- the first n types
unfoldable pub types_in : List ℕ → ℕ → List Ty
types_in t n = tabulate n (λ k. type_at t (2 * k))

-- the shape that the bytes for inputs, outputs and variables hold
unfoldable pub shape_in : List ℕ → List ℕ → List ℕ → Arity → Shape
shape_in ins outs vars a = record { ins = types_in ins a.ins; outs = types_in outs a.outs; vars = types_in vars a.vars }

-- the wires at the first n offsets of a table
unfoldable pub wires_in : List ℕ → List ℕ → ℕ → List Wire
wires_in s t n = map (wire_of s) (take n t)

unfoldable pub type_in : List ℕ → List ℕ → ℕ → ℕ → Ty  -- the type of wire w
type_in s t n w = (get_or (wires_in s t n) w no_wire).ty

-- the length of a box's body fits its counts, and these are 4 at most
pub record BodyFits (b : List ℕ) : Type 0 where
  pub whole : length b ≡ variable_start b (get_or b 2 0)
  pub ins : get_or b 0 0 ≤ 4
  pub outs : get_or b 1 0 ≤ 4
  pub vars : get_or b 2 0 ≤ 4

-- the box at an offset lies in the file, and its body fits
pub record BoxFits (s : List ℕ) (o : ℕ) : Type 0 where
  pub inside : o + 3 + two_at s (o + 1) ≤ length s
  pub body : BodyFits (body_at s o)
