-- A cycle and a pass over a site and lent bytes: short names for what the contracts cite.
-- Assumes nothing.
use Rattle.std.specs.Prelude.{ℕ, ◌≡◌, List, Option}
use Rattle.model.specs.declared.Ending.{Ending}
use Rattle.model.specs.Network.{State}
use Rattle.model.specs.Cycles.{Finding, finding, Ended, run}
use Rattle.places.specs.declared.Site.{Site}
use Rattle.places.specs.Views.{net_at, state_at}
use Rattle.moves.specs.Views.{Becomes}
use Rattle.taking.specs.Taking.{fired}
use Rattle.firing.specs.Firing.{Chosen}
use Rattle.cycling.specs.declared.Start.{Start}
use Rattle.cycling.specs.Cycling.{rule_for, Noted, Told, pass_of, after_pass}

-- the rule of process k, of those noted
abbrev pub rule_by : Start → Site → ℕ → ℕ
rule_by x s k = rule_for x.rules.now s.plan.net.counts.boxes k

-- process k can fire by it
abbrev pub CanFire : Start → Site → List ℕ → ℕ → Type 0
CanFire x s b k = Chosen s.plan.net.counts (net_at s) (state_at s b) k (rule_by x s k)

-- the state once it has fired
abbrev pub fired_by : Start → Site → List ℕ → ℕ → State
fired_by x s b k = fired (net_at s) k (rule_by x s k) (state_at s b)

-- the rules noted, and the marks, are those of the state in these bytes
abbrev pub Notes : Start → Site → List ℕ → Type 0
Notes x s b = Noted (net_at s) (state_at s b) x.rules.now

abbrev pub Tells : Start → Site → List ℕ → Type 0
Tells x s b = Told (net_at s) (state_at s b) x.set x.rules.now

abbrev pub finding_at : Site → List ℕ → Finding
finding_at s b = finding (net_at s) (state_at s b)

-- a pass with so much budget left answers r and makes bytes b into b'
abbrev pub Passes : Site → List ℕ → ℕ → Option Ending → List ℕ → Type 0
Passes s b left r b' = (r ≡ pass_of (finding_at s b) left) × Becomes s b b' (after_pass (finding_at s b) left (net_at s) (state_at s b))

-- a run with this budget
abbrev pub run_at : Site → List ℕ → ℕ → Ended
run_at s b budget = run (net_at s) budget (state_at s b)
