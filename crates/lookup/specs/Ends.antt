-- What an input or an output of a network has beside its number.
-- Assumes nothing.
use Rattle.std.specs.Prelude.{ℕ}
use Rattle.model.specs.Network.{Proc, box, input, output}

unfoldable pub wire_at : Proc → ℕ  -- the wire of an input or an output
wire_at (box b) = 0
wire_at (input w ts) = w
wire_at (output w room) = w

unfoldable pub room_at : Proc → ℕ  -- the room of an output
room_at (box b) = 0
room_at (input w ts) = 0
room_at (output w room) = room
