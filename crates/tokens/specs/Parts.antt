-- What is asked of a box's body, and an output's part as a field of the output file.
-- Assumes nothing.
use Rattle.std.specs.Prelude.{ℕ, ◌*◌, ◌≤◌, ◌<◌, List, ◌∷◌, ◌++◌, get_or, take, drop}
use Rattle.model.specs.Bytes.{two_at, two_bytes}
use Rattle.model.specs.Expressions.{type_at}
use Rattle.model.specs.NetworkFile.{variable_start}

-- each variable of a box's body has precision 1 to 30
pub record Precise (b : List ℕ) : Type 0 where
  pub low : (j : ℕ) → j < get_or b 2 0 → 1 ≤ (type_at b (variable_start b j)).p
  pub high : (j : ℕ) → j < get_or b 2 0 → (type_at b (variable_start b j)).p ≤ 30

-- one field of the output file: the tokens that an output's part counts
unfoldable pub field_bytes : List ℕ → List ℕ
field_bytes s = let n = 5 * two_at s 0 in 33 ∷ (two_bytes n ++ take n (drop 2 s))
