-- That the starts stand in a table is known in one way only: what a ghost field asks of its fact.
-- Assumes nothing.
use Rattle.std.specs.Prelude.{ℕ, List, get_or}
use Rattle.std.specs.Coded.{Coded-set, coded_ℕ}
use Rattle.model.specs.Network.{Net}
use Rattle.queues.specs.Segments.{start_of}
use Rattle.places.specs.Places.{sizes_of, Placed}

pub Placed_prop : (n : Net) (p : List ℕ) → IsProp (Placed n p)
Placed_prop n p x y = λ i. record { at = λ j h. Coded-set coded_ℕ (get_or p j 0) (start_of (sizes_of n) j) (x.at j h) (y.at j h) i }
