-- A table with its counts that the check of an accepted file filled.
-- Assumes nothing.
use Rattle.std.specs.Prelude.{ℕ, ◌≤◌, ◌≡◌, List, length}
use Rattle.model.specs.NetworkFile.{good, network}
use Rattle.table.specs.declared.Counts.{Counts}
use Rattle.table.specs.Table.{index_in, Within}

pub record Tabled (s t : List ℕ) (c : Counts) : Type 0 where
  pub long : 656 ≤ length t
  pub within : Within c
  pub found : network s ≡ good (index_in t c)
