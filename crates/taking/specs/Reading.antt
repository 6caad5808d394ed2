-- What a box takes from its input wires under a rule, and what that asks.
-- Assumes nothing.
use Rattle.std.specs.Prelude.{ℕ, ◌≤◌, ◌<◌, ◌≡◌, Bool, true, false, not, List, map, eqb, length, get_or}
use Rattle.model.specs.Network.{State, queue}
use Rattle.model.specs.Cycles.{reads, look, moves, take_all}
use Rattle.model.specs.Orders.{on_wire}
use Rattle.expressions.specs.Reading.{is_read}
use Rattle.table.specs.declared.Counts.{Counts}
use Rattle.rules.specs.Bodies.{patterns_from}
use Rattle.typing.specs.Fits.{list_read}
use Rattle.moves.specs.Moves.{after_take}

-- which inputs are read by the n patterns from an offset of a rule's body on
unfoldable pub read_from : ℕ → ℕ → List ℕ → List Bool
read_from n at body = map reads (list_read (patterns_from false n at body))

-- without the oldest token of each of these wires that is read
unfoldable pub after_reading : List ℕ → List Bool → State → State
after_reading ws bs s = record { queues = take_all (moves ws (look s ws bs)) s.queues; owns = s.owns }

unfoldable pub after_read : Bool → ℕ → State → State  -- of one wire
after_read true w s = after_take w s
after_read false w s = s

-- each of these wires holds a token wherever it is read
pub record Holds (s : State) (ws : List ℕ) (bs : List Bool) : Type 0 where
  pub has : (w : ℕ) → length (on_wire w (moves ws (look s ws bs))) ≤ length (queue s w)

-- box k with these input wires can take what the patterns at the start of a rule's body read
pub record CanRead (c : Counts) (s : State) (ws : List ℕ) (k : ℕ) (body : List ℕ) : Type 0 where
  pub known : k < c.boxes
  pub whole : is_read (patterns_from false (length ws) 0 body) ≡ true
  pub holds : Holds s ws (read_from (length ws) 0 body)

-- the same of input j alone, under a pattern of this code
pub record CanReadAt (c : Counts) (s : State) (ws : List ℕ) (k j code : ℕ) : Type 0 where
  pub known : k < c.boxes
  pub there : j < length ws
  pub waits : not (eqb code 0) ≡ true → 0 < length (queue s (get_or ws j 0))
