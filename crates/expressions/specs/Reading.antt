-- What the readers of an expression say of the one that stands in the bytes.
-- Assumes nothing.
use Rattle.std.specs.Prelude.{ℕ, ◌+◌, Bool, true, false, not, cond, ◌&&◌, ◌||◌, List, Option, Some, None, leb, eqb, get_or}
use Rattle.model.specs.Values.{in_precision}
use Rattle.model.specs.Expressions.{Exp, Read, bad, got, depth_of, precise, expression_limits, type_at}

-- the offset after what was read at an offset, if it is there
unfoldable pub end_from : {A : Type 0} → ℕ → Read A → Option ℕ
end_from at bad = None
end_from at (got a n) = Some (at + n)

unfoldable pub is_read : {A : Type 0} → Read A → Bool  -- it is there
is_read bad = false
is_read (got a n) = true

unfoldable pub skip_to : {A : Type 0} → ℕ → Read A → ℕ  -- the same of what is known to be there
skip_to at bad = at
skip_to at (got a n) = at + n

-- a literal and a cast name a precision
unfoldable pub precise_head : List ℕ → Bool
precise_head s = let c = get_or s 0 0 in not (eqb c 0 || eqb c 3) || in_precision (type_at s 1)

unfoldable pub shallow : ℕ → Exp → Bool  -- not deeper than d, and precise
shallow d e = leb (depth_of e) d && precise e

unfoldable pub fits_at : ℕ → Read Exp → Bool  -- it is there, not deeper than d, and precise
fits_at d bad = false
fits_at d (got e n) = shallow d e

-- the offset after the expression read at an offset, none where it is malformed or beyond a limit
unfoldable pub limits_at : ℕ → ℕ → Read Exp → Option ℕ
limits_at at d bad = None
limits_at at d (got e n) = cond (shallow d e) (Some (at + n)) None

unfoldable pub limits_read : Read Exp → Bool  -- it is there, and keeps the limits
limits_read bad = false
limits_read (got e n) = expression_limits e
