-- A change of a state that lent bytes hold, over a site: a short name for what the contracts cite.
-- Assumes nothing.
use Rattle.std.specs.Prelude.{ℕ, List}
use Rattle.model.specs.Network.{State}
use Rattle.places.specs.declared.Site.{Site}
use Rattle.moves.specs.Moves.{Became}

-- lent bytes b became b', which hold the state s'; every byte beyond the state is as it was
abbrev pub Becomes : Site → List ℕ → List ℕ → State → Type 0
Becomes s b b' s' = Became s.plan.net.file.now s.plan.net.table.now s.plan.starts.now s.tokens.now b s.plan.net.counts b' s'
