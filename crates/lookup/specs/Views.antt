-- What an accepted network holds, as the model has it: short names for what the contracts cite.
-- Assumes nothing.
use Rattle.std.specs.Prelude.{ℕ, []}
use Rattle.model.specs.Network.{Box}
use Rattle.model.specs.Network as model
use Rattle.model.specs.NetworkFile.{Index, box_at, net_of}
use Rattle.table.specs.Table.{index_in}
use Rattle.lookup.specs.declared.Net.{Net}

-- the offsets of its fields
abbrev pub index_of : Net → Index
index_of n = index_in n.table.now n.counts

-- the network itself, without tokens
abbrev pub network_of : Net → model.Net
network_of n = net_of n.file.now (index_of n) []

-- its box k
abbrev pub box_in : Net → ℕ → Box
box_in n k = box_at n.file.now (index_of n) k
