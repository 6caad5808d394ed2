-- A part of some bytes, the bytes with another part in its place, and where each part of a state begins.
-- Assumes nothing.
use Rattle.std.specs.Prelude.{ℕ, ◌+◌, List, ◌++◌, map, take, drop}
use Rattle.model.specs.Network.{Net}
use Rattle.model.specs.States.{sum, wire_size, own_size, wires_size}

-- the k bytes from a on, and the bytes with ys in their place
abbrev pub mid : ℕ → ℕ → List ℕ → List ℕ
mid a k s = take k (drop a s)

abbrev pub put_mid : ℕ → ℕ → List ℕ → List ℕ → List ℕ
put_mid a k s ys = take a s ++ (ys ++ drop k (drop a s))

-- where segment i of segments of these sizes begins
unfoldable pub start_of : List ℕ → ℕ → ℕ
start_of sizes i = sum (take i sizes)

unfoldable pub wire_start : Net → ℕ → ℕ  -- the bytes of wire i
wire_start n i = start_of (map wire_size n.wires) i

unfoldable pub own_start : Net → ℕ → ℕ  -- the bytes of process k
own_start n k = wires_size n + start_of (map own_size n.procs) k
