use mathlib.Core.Path.{◌≡◌}
use Rattle.lookup.specs.Views.{network_of}
use Rattle.states.specs.Saved.{wires_fit}
use Rattle.states.proofs.wires_fit.Given as goal

abbrev pub invariant-loop-w : goal.invariant-loop-w
invariant-loop-w l = wires_fit (network_of l.plan.net) l.w l.state ≡ wires_fit (network_of l.plan.net) 0 l.state
