-- The check of a saved state: what it is checked against, and what of the state is still to be looked at.
-- Assumes nothing.
use Rattle.std.specs.Prelude.{ℕ, ◌≡◌, ◌≤◌, Bool, true, false, not, ◌||◌, List, [], length, leb, get_or, drop}
use mathlib.Core.List.{map, zip_with}
use Rattle.model.specs.declared.Token.{Token}
use Rattle.model.specs.Bytes.{two_at}
use Rattle.model.specs.Network.{Net}
use Rattle.model.specs.NetworkFile.{net_of}
use Rattle.model.specs.States.{wire_size, own_size, wire_fits, own_fits, split, all_true, state_size, state_fits}
use Rattle.queues.specs.Segments.{wire_start, own_start}
use Rattle.lookup.specs.Views.{index_of}
use Rattle.places.specs.declared.Plan.{Plan}
use Rattle.places.specs.declared.Site.{Site}
use Rattle.places.specs.Standing.{tokens_of}
use Rattle.states.specs.declared.Basis.{Basis}
use Rattle.states.specs.declared.Basis.TheVariants as basis

-- the network with the places of a state's parts
abbrev pub plan_of : Basis → Plan
plan_of (basis.Network p) = p
plan_of (basis.Uncounted s) = s.plan
plan_of (basis.Files f) = f.site.plan

-- taken counts are looked at
abbrev pub counted : Basis → Bool
counted (basis.Network p) = false
counted (basis.Uncounted s) = false
counted (basis.Files f) = true

-- the tokens of each input of a site
abbrev pub tokens_at : Site → List (List Token)
tokens_at s = let n = s.plan.net in tokens_of n.file.now n.table.now n.counts s.tokens.now

-- the tokens of each input, none without a token file
abbrev pub tokens_for : Basis → List (List Token)
tokens_for (basis.Network p) = []
tokens_for (basis.Uncounted s) = tokens_at s
tokens_for (basis.Files f) = tokens_at f.site

-- the network with those tokens
abbrev pub network_for : Basis → Net
network_for b = let n = (plan_of b).net in net_of n.file.now (index_of n) (tokens_for b)

-- input i has taken no more than its tokens, where that is looked at
unfoldable pub input_fits : Basis → ℕ → List ℕ → Bool
input_fits b i part = not (counted b) || leb (two_at part 0) (length (get_or (tokens_for b) i []))

-- lent bytes hold a state of a network
pub record Holds (n : Net) (counted : Bool) (st : List ℕ) : Type 0 where
  pub long : state_size n ≤ length st
  pub fits : state_fits n counted st ≡ true

-- the wires from w on fit
unfoldable pub wires_fit : Net → ℕ → List ℕ → Bool
wires_fit n w s = let ws = drop w n.wires in all_true (zip_with wire_fits ws (split (map wire_size ws) (drop (wire_start n w) s)))

-- the processes from k on fit
unfoldable pub owns_fit : Net → Bool → ℕ → List ℕ → Bool
owns_fit n counted k s = let ps = drop k n.procs in all_true (zip_with (own_fits n counted) ps (split (map own_size ps) (drop (own_start n k) s)))
