use mathlib.Core.Path.{◌≡◌}
use Rattle.states.specs.Saved.{network_for, counted, owns_fit}
use Rattle.states.proofs.owns_fit.Given as goal

abbrev pub invariant-loop-k : goal.invariant-loop-k
invariant-loop-k l = owns_fit (network_for l.basis) (counted l.basis) l.k l.state ≡ owns_fit (network_for l.basis) (counted l.basis) 0 l.state
