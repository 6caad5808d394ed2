-- What the limits of a box say of its variables.
-- Assumes nothing.
use Rattle.std.proofs.Common.{◌≡◌, ℕ, true, ◌&&◌, leb, ltb, List, get_or}
use Rattle.model.specs.Values.{in_precision}
use Rattle.model.specs.Expressions.{type_at}
use Rattle.model.specs.NetworkFile.{every, variable_start, box_limits}
use Rattle.model.proofs.Tests.{and_right}

-- each variable of a box within its limits has a precision of 1 to 30
pub precise_of : (b : List ℕ) (seen n : ℕ) → n ≡ get_or b 2 0 → box_limits seen b ≡ true → every n (λ j. in_precision (type_at b (variable_start b j))) ≡ true
unfolding box_limits
precise_of b seen n e d = rw e (and_right (ltb seen 32 && leb (get_or b 0 0) 4 && leb (get_or b 1 0) 4 && leb (get_or b 2 0) 4) _ d)
