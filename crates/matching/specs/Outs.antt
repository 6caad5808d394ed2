-- Output actions against the wires that are full.
-- Assumes nothing.
use Rattle.std.specs.Prelude.{ℕ, ◌+◌, Bool, true, not, cond, ◌&&◌, List, [], ◌∷◌, eqb, get_or, Option, Some, None}
use Rattle.model.specs.Expressions.{Read, bad, got}
use Rattle.model.specs.Rules.{Action}
use Rattle.model.specs.Cycles.{writes}

-- none of the actions from number j on writes where the flag of its output is 1
unfoldable pub open_from : List ℕ → ℕ → List Action → Bool
open_from fs j [] = true
open_from fs j (a ∷ acts) = not (writes a && eqb (get_or fs j 0) 1) && open_from fs (j + 1) acts

-- the offset after the actions, if all that are written are open
unfoldable pub outs_of : List ℕ → ℕ → ℕ → Read (List Action) → Option ℕ
outs_of fs j at bad = None
outs_of fs j at (got acts n) = cond (open_from fs j acts) (Some (at + n)) None
