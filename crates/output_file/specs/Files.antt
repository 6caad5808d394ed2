-- The output file, process by process.
-- Assumes nothing.
use Rattle.std.specs.Prelude.{ℕ, ◌+◌, ◌≤◌, ◌<◌, drop}
use mathlib.Core.List.{List, map, zip_with}
use Rattle.model.specs.Network.{Net, proc}
use Rattle.model.specs.States.{own_size, cat, split, own_in, output_field}
use Rattle.table.specs.declared.Counts.{Counts}
use Rattle.queues.specs.Segments.{mid, own_start}

-- the field of process k: only an output has one
unfoldable pub field_on : Net → List ℕ → ℕ → List ℕ
field_on n st k = output_field (proc n k) (own_in (proc n k) (mid (own_start n k) (own_size (proc n k)) st))

-- the fields of the processes from k on
unfoldable pub file_from : Net → List ℕ → ℕ → List ℕ
file_from n st k = let ps = drop k n.procs in cat (zip_with output_field ps (zip_with own_in ps (split (map own_size ps) (drop (own_start n k) st))))

-- process k is an output
pub record IsOutput (c : Counts) (k : ℕ) : Type 0 where
  pub least : c.boxes + c.inputs ≤ k
  pub most : k < c.boxes + c.inputs + c.outputs
