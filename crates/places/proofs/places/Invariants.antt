use mathlib.Core.Path.{◌≡◌}
use Rattle.queues.specs.Segments.{start_of}
use Rattle.lookup.specs.Views.{network_of}
use Rattle.places.specs.Places.{sizes_of}
use Rattle.places.proofs.Laws.{SoFar}
use Rattle.places.proofs.places.Given as goal

abbrev pub invariant-loop-j : goal.invariant-loop-j
invariant-loop-j l = (l.at ≡ start_of (sizes_of (network_of l.net)) l.j) × SoFar (network_of l.net) l.starts l.j
