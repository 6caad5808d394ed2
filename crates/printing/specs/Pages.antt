-- A text laid into a lent buffer, byte by byte, as far as there is room.
-- Assumes nothing.
use Rattle.std.specs.Prelude.{ℕ, ◌+◌, cond, List, [], ◌∷◌, ltb, length, set}

-- the lent bytes, and where the next one of a text goes
pub record Page : Type 0 where
  pub at : ℕ
  pub bytes : List ℕ

unfoldable pub page : ℕ → List ℕ → Page
page at b = record { at = at; bytes = b }

-- one byte more; a full page stays as it is
unfoldable pub laid_one : ℕ → Page → Page
laid_one x p = cond (ltb p.at (length p.bytes)) (page (p.at + 1) (set p.bytes p.at x)) p

unfoldable pub laid : List ℕ → Page → Page  -- a text
laid [] p = p
laid (x ∷ xs) p = laid xs (laid_one x p)
