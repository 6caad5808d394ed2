-- The size of a state stands behind the starts of its segments.
-- Assumes nothing.
use Prim.Native.Nat.{ℕ, ◌+◌}
use mathlib.Core.Path.{◌≡◌, ◌∙◌}
use mathlib.Core.List.{List, []}
use native.Mathlib.Omega.{arith}
use lib.ListN.{get_or}
use Rattle.model.specs.NetworkFile.{net_of}
use Rattle.model.specs.States.{state_size}
use Rattle.table.specs.declared.Counts.{Counts}
use Rattle.table.specs.Table.{index_in}
use Rattle.lookup.specs.Tabled.{Tabled}
use Rattle.places.specs.Places.{sizes_of, Placed}
use Rattle.places.proofs.Laws.{sizes_length, sizes_sum, start_all}

pub size_is : (s t p : List ℕ) (c : Counts) → Tabled s t c → Placed (net_of s (index_in t c) []) p → (v : ℕ) → v ≡ get_or p (c.wires + c.boxes + c.inputs + c.outputs) 0 → v ≡ state_size (net_of s (index_in t c) [])
size_is s t p c h g v e =
    let n = net_of s (index_in t c) [] in
    let last = c.wires + c.boxes + c.inputs + c.outputs in
    e ∙ g.at last (omega (arith, sizes_length s t c h)) ∙ start_all (sizes_of n) last (omega (arith, sizes_length s t c h)) ∙ sizes_sum s t c h
