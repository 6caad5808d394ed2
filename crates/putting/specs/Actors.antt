-- What a box that acts sends and keeps, by the actions of its rule's body: short names for what the contracts cite.
-- Assumes nothing.
use Rattle.std.specs.Prelude.{ℕ, ◌+◌, List, ℤ, pos, get_or, drop}
use Rattle.model.specs.Expressions.{Scope}
use Rattle.model.specs.Network.{Box}
use Rattle.model.specs.Cycles.{Move, new_var}
use Rattle.types.specs.Scopes.{scope_in}
use Rattle.typing.specs.Fits.{action_at}
use Rattle.evaluation.specs.Named.{named_by}
use Rattle.lookup.specs.Views.{box_in}
use Rattle.places.specs.Views.{vars_at}
use Rattle.putting.specs.declared.Actor.{Actor}
use Rattle.putting.specs.Putting.{sent_to, sent_from, new_from}

-- the types that its expressions may name
abbrev pub scope_by : Actor → Scope
scope_by x = scope_in x.env.now.types

-- the box itself
abbrev pub box_by : Actor → Box
box_by x = box_in x.site.now.plan.net x.k.0

-- its variables, in lent bytes
abbrev pub vars_by : Actor → List ℕ → List ℤ
vars_by x b = vars_at x.site.now b x.k.0

-- the result of the action at an offset, for output j
abbrev pub sent_one : Actor → ℕ → ℕ → List Move
sent_one x j at = sent_to x.env.now.vals x.env.now.types (get_or (box_by x).outs j 0) x.body.now at

-- the results of n actions from an offset on
abbrev pub sent_all : Actor → ℕ → ℕ → List Move
sent_all x n from = sent_from x.env.now.vals x.env.now.types (box_by x).outs x.body.now n from

-- what the action at an offset leaves in variable j
abbrev pub new_one : Actor → ℕ → ℕ → ℤ
new_one x j at = new_var (named_by x.env.now) (get_or x.env.now.vals (4 + j) (pos 0)) (action_at (drop at x.body.now))

-- what n actions from an offset on leave in the variables that the lent bytes hold
abbrev pub new_all : Actor → List ℕ → ℕ → ℕ → List ℤ
new_all x b n from = new_from x.env.now.vals x.env.now.types (vars_by x b) x.body.now n from
