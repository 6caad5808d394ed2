-- What a site and a lent state hold, as the model has it: short names for what the contracts cite.
-- Assumes nothing.
use Rattle.std.specs.Prelude.{ℕ, List, ℤ}
use Rattle.model.specs.Network.{Net, State, own, vars_of}
use Rattle.places.specs.declared.Site.{Site}
use Rattle.places.specs.Standing.{net_in, Standing, state_of}

-- the network of a site, with the tokens of its token file
abbrev pub net_at : Site → Net
net_at s = net_in s.plan.net.file.now s.plan.net.table.now s.plan.net.counts s.tokens.now

-- the state in lent bytes
abbrev pub state_at : Site → List ℕ → State
state_at s b = state_of s.plan.net.file.now s.plan.net.table.now s.plan.net.counts s.tokens.now b

-- the variables of box k in it
abbrev pub vars_at : Site → List ℕ → ℕ → List ℤ
vars_at s b k = vars_of (own (state_at s b) k)

-- the token file is accepted, and the lent bytes hold a state of the network
abbrev pub Stands : Site → List ℕ → Type 0
Stands s b = Standing s.plan.net.file.now s.plan.net.table.now s.plan.starts.now s.tokens.now b s.plan.net.counts
