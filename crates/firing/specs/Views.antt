-- A box that acts, over the lent bytes that it finds: short names for what the contracts cite.
-- Assumes nothing.
use Rattle.std.specs.Prelude.{ℕ, List}
use Rattle.model.specs.Network.{State}
use Rattle.model.specs.Cycles.{act}
use Rattle.shapes.specs.declared.Arity.{Arity}
use Rattle.places.specs.Views.{net_at, state_at}
use Rattle.putting.specs.declared.Actor.{Actor}
use Rattle.putting.specs.Actors.{box_by}
use Rattle.firing.specs.Firing.{deed_in, Works}

-- the deed that its rule's body says, whose output actions begin at an offset, can be done
abbrev pub CanAct : Actor → List ℕ → Arity → ℕ → Type 0
CanAct x b a from = Works x.site.now.plan.net.counts (net_at x.site.now) (state_at x.site.now b) (box_by x) x.k.0 a from x.body.now x.env.now.vals x.env.now.types

-- the state once it is done
abbrev pub acted : Actor → List ℕ → Arity → ℕ → State
acted x b a from =
    let s = state_at x.site.now b in
    act x.k.0 (deed_in (box_by x) a from x.body.now x.env.now.vals x.env.now.types x.k.0 s) s
