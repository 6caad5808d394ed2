use Rattle.lookup.specs.Views.{box_in}
use Rattle.places.specs.Views.{state_at, vars_at}
use Rattle.sights.specs.Seen.{Oldest, Variables}
use Rattle.sights.proofs.see_inputs.Given as goal

abbrev pub invariant-loop-j : goal.invariant-loop-j
invariant-loop-j l = Oldest (state_at l.site l.state) (box_in l.site.plan.net l.fn.k.0).ins l.j l.heads l.vals × Variables (vars_at l.site l.state l.fn.k.0) l.vals
