-- A variable by its offset.
-- Assumes nothing.
use Rattle.std.specs.Prelude.{ℕ, ◌+◌, Bool, ◌&&◌, List}
use Rattle.model.specs.Bytes.{value_at}
use Rattle.model.specs.Values.{is_plain, within}
use Rattle.model.specs.Expressions.{type_at}

-- the variable at an offset of a box's body: a plain type, and a value of it
unfoldable pub fits_at : List ℕ → ℕ → Bool
fits_at b at = is_plain (type_at b at) && within (type_at b at) (value_at b (at + 2))
