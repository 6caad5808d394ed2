-- The firing of an input and of an output, and what each asks.
-- Assumes nothing.
use Rattle.std.specs.Prelude.{ℕ, ◌+◌, ◌≤◌, ◌<◌, length}
use Rattle.model.specs.Network.{Net, State, proc, capacity, queue, own, taken_of, got_of, ins_of}
use Rattle.model.specs.Cycles.{look, reads_of, deed_of, act}
use Rattle.table.specs.declared.Counts.{Counts}
use Rattle.lookup.specs.Ends.{wire_at, room_at}
use Rattle.moves.specs.Moves.{tokens_at}

-- process k fires under rule r, on the state that it finds
unfoldable pub fired : Net → ℕ → ℕ → State → State
fired n k r s = let p = proc n k in act k (deed_of n p r (look s (ins_of p) (reads_of p r)) (own s k)) s

-- input k has a token left, and its wire isn't full
pub record InputReady (c : Counts) (n : Net) (s : State) (k : ℕ) : Type 0 where
  pub least : c.boxes ≤ k
  pub known : k < c.boxes + c.inputs
  pub left : taken_of (own s k) < length (tokens_at (proc n k))
  pub room : length (queue s (wire_at (proc n k))) < capacity n (wire_at (proc n k))

-- output k has a token waiting on its wire, and room for it
pub record OutputReady (c : Counts) (n : Net) (s : State) (k : ℕ) : Type 0 where
  pub least : c.boxes + c.inputs ≤ k
  pub known : k < c.boxes + c.inputs + c.outputs
  pub waits : 0 < length (queue s (wire_at (proc n k)))
  pub room : length (got_of (own s k)) < room_at (proc n k)
