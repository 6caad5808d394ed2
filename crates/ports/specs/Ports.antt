-- The ports of a network read off the offsets of its fields, and counts of them that stop at 2.
-- Assumes nothing.
use Rattle.std.specs.Prelude.{ℕ, ◌+◌, ◌<◌, Bool, cond, ◌&&◌, List, [], ◌∷◌, ◌++◌, ltb, eqb, get_or, set}
use Rattle.model.specs.NetworkFile.{body_at, box_of}
use Rattle.shapes.specs.Shapes.{BoxFits}

-- the ports of the fields at these offsets
unfoldable pub ports_at : (ℕ → List ℕ) → List ℕ → List ℕ
ports_at f [] = []
ports_at f (o ∷ os) = f o ++ ports_at f os

-- of the box at an offset those that write, or those that read; of an input or output its wire
unfoldable pub box_ports : Bool → List ℕ → ℕ → List ℕ
box_ports outs s o = cond outs (box_of (body_at s o)).outs (box_of (body_at s o)).ins

unfoldable pub end_port : List ℕ → ℕ → List ℕ  -- the wire of the field at an offset
end_port s o = get_or s (o + 3) 0 ∷ []

-- one port more on wire w; a count stops at 2
unfoldable pub bump : ℕ → ℕ
bump n = cond (ltb n 2) (n + 1) n

unfoldable pub touched : List ℕ → ℕ → List ℕ  -- one port more
touched t w = set t w (bump (get_or t w 0))

unfoldable pub tally_of : List ℕ → List ℕ → List ℕ  -- one port more on each wire named
tally_of t [] = t
tally_of t (w ∷ ws) = tally_of (touched t w) ws

-- both counts are 1
unfoldable pub fits_in : List ℕ → List ℕ → ℕ → Bool
fits_in reads writes w = eqb (get_or reads w 0) 1 && eqb (get_or writes w 0) 1

-- the first n boxes of a table fit
pub record BoxesFit (s t : List ℕ) (n : ℕ) : Type 0 where
  pub each : (k : ℕ) → k < n → BoxFits s (get_or t (64 + k) 0)
