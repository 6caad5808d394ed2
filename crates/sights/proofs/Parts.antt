-- The bytes of a wire and of a process, by the counts of the table.
-- Assumes nothing.
use mathlib.Core.Path.{◌≡◌}
use mathlib.Core.List.{List, []}
use Prim.Native.Nat.{ℕ, ◌+◌, ◌-◌, ◌≤◌, ◌<◌}
use native.Mathlib.Omega.{arith}
use lib.ListN.{length}
use Rattle.model.specs.Network.{Net, wire, proc, queue, own}
use Rattle.model.specs.NetworkFile.{net_of}
use Rattle.model.specs.States.{wire_bytes, own_bytes, state_size}
use Rattle.model.proofs.Lookup.{wires_length, procs_length}
use Rattle.table.specs.declared.Counts.{Counts}
use Rattle.table.specs.Table.{index_in}
use Rattle.queues.specs.Segments.{mid}
use Rattle.lookup.proofs.Tabled.{n_wires, n_boxes, n_inputs, n_outputs}
use Rattle.places.specs.declared.Span.{Span}
use Rattle.places.specs.Places.{WireSpan, OwnSpan}
use Rattle.places.specs.Standing.{net_in, Standing, state_of}
use Rattle.places.proofs.Standing.{size_same, wire_bytes_lem, own_bytes_lem}

module _ (s t p ts b : List ℕ) (c : Counts) (h : Standing s t p ts b c) where
  abbrev m : Net
  m = net_of s (index_in t c) []

  -- what ends within the state's size ends within the lent bytes
  pub inside : (e : ℕ) → e ≤ state_size m → e ≤ length b
  inside e l = omega (arith, l, size_same s t p ts b c h, h.long)

  pub wire_is : (w : ℕ) (r : Span) → w < c.wires → WireSpan m w r → mid r.start (r.end - r.start) b ≡ wire_bytes (wire (net_in s t c ts) w) (queue (state_of s t c ts b) w)
  wire_is w r l q = wire_bytes_lem s t p ts b c h w r (omega (arith, l, wires_length s (index_in t c) [], n_wires s t c h.tabled)) q

  pub own_is : (k : ℕ) (r : Span) → k < c.boxes + c.inputs + c.outputs → OwnSpan m k r → mid r.start (r.end - r.start) b ≡ own_bytes (proc (net_in s t c ts) k) (own (state_of s t c ts b) k)
  own_is k r l q =
      own_bytes_lem s t p ts b c h k r (omega (arith, l, procs_length s (index_in t c) [], n_boxes s t c h.tabled, n_inputs s t c h.tabled, n_outputs s t c h.tabled)) q
