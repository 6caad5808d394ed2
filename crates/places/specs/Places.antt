-- The starts of the segments of a state: wires first, then processes.
-- Assumes nothing.
use Rattle.std.specs.Prelude.{ℕ, ◌+◌, ◌≤◌, ◌≡◌, List, ◌++◌, map, length, get_or}
use Rattle.model.specs.Network.{Net, wire, proc}
use Rattle.model.specs.States.{wire_size, own_size, state_size}
use Rattle.queues.specs.Segments.{start_of, wire_start, own_start}
use Rattle.places.specs.declared.Span.{Span}

-- the sizes of all segments
unfoldable pub sizes_of : Net → List ℕ
sizes_of n = map wire_size n.wires ++ map own_size n.procs

-- the table holds where each begins, and where the last ends
pub record Placed (n : Net) (p : List ℕ) : Type 0 where
  pub at : (j : ℕ) → j ≤ length (sizes_of n) → get_or p j 0 ≡ start_of (sizes_of n) j

-- and the size of all is r
pub record Placing (n : Net) (p : List ℕ) (r : ℕ) : Type 0 where
  pub starts : Placed n p
  pub size : r ≡ state_size n

-- from entry j up to the next
pub record Between (p : List ℕ) (j : ℕ) (r : Span) : Type 0 where
  pub start : r.start ≡ get_or p j 0
  pub end : r.end ≡ get_or p (j + 1) 0

pub record WireSpan (n : Net) (w : ℕ) (r : Span) : Type 0 where  -- wire w
  pub start : r.start ≡ wire_start n w
  pub end : r.end ≡ r.start + wire_size (wire n w)
  pub inside : r.end ≤ state_size n

pub record OwnSpan (n : Net) (k : ℕ) (r : Span) : Type 0 where  -- process k
  pub start : r.start ≡ own_start n k
  pub end : r.end ≡ r.start + own_size (proc n k)
  pub inside : r.end ≤ state_size n
