-- An accepted network and token file with their tables, and a lent state that was accepted: what every firing starts from and leaves.
-- Assumes nothing.
use Rattle.std.specs.Prelude.{ℕ, ◌≤◌, ◌≡◌, true, List, [], length}
use Rattle.model.specs.declared.Token.{Token}
use Rattle.model.specs.Network.{Net, State}
use Rattle.model.specs.NetworkFile.{Verdict, good, refuse, net_of}
use Rattle.model.specs.States.{token_file, input_types, state_size, state_fits, state_in}
use Rattle.table.specs.declared.Counts.{Counts}
use Rattle.table.specs.Table.{index_in}
use Rattle.octets.proofs.Laws.{Octets}
use Rattle.lookup.specs.Tabled.{Tabled}
use Rattle.places.specs.Places.{Placed}

-- the network without tokens
unfoldable pub bare_net : List ℕ → List ℕ → Counts → Net
bare_net s t c = net_of s (index_in t c) []

unfoldable pub found : Verdict (List (List Token)) → List (List Token)  -- what a token file holds
found (good tokens) = tokens
found (refuse n p) = []

-- the tokens of a token file
unfoldable pub tokens_of : List ℕ → List ℕ → Counts → List ℕ → List (List Token)
tokens_of s t c ts = let n = bare_net s t c in found (token_file (input_types n n.procs) ts)

-- the network with the tokens of a token file
unfoldable pub net_in : List ℕ → List ℕ → Counts → List ℕ → Net
net_in s t c ts = net_of s (index_in t c) (tokens_of s t c ts)

-- network file s, table t with counts c, starts p, token file ts, state b
pub record Standing (s t p ts b : List ℕ) (c : Counts) : Type 0 where
  pub tabled : Tabled s t c
  pub placed : Placed (bare_net s t c) p
  pub tokens : token_file (input_types (bare_net s t c) (bare_net s t c).procs) ts ≡ good (tokens_of s t c ts)
  pub octets : Octets b
  pub long : state_size (net_in s t c ts) ≤ length b
  pub fits : state_fits (net_in s t c ts) true b ≡ true

-- the state that stands there
unfoldable pub state_of : List ℕ → List ℕ → Counts → List ℕ → List ℕ → State
state_of s t c ts b = state_in (net_in s t c ts) b
