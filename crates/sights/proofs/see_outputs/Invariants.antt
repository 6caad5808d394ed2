use Rattle.lookup.specs.Views.{box_in}
use Rattle.places.specs.Views.{net_at, state_at}
use Rattle.sights.specs.Seen.{Fulls}
use Rattle.sights.proofs.see_outputs.Given as goal

abbrev pub invariant-loop-j : goal.invariant-loop-j
invariant-loop-j l = Fulls (net_at l.site) (state_at l.site l.state) (box_in l.site.plan.net l.fn.k.0).outs l.j l.full
