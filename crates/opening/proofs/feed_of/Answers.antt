use mathlib.Core.Path.{refl}
use Rattle.places.specs.Standing.{bare_net}
use Rattle.opening.proofs.feed_of.Goals as goal

pub invariant_of-net : goal.invariant_of-net
invariant_of-net c = record { tabled = c.requires.net.tabled }

pub invariant_of-plan : goal.invariant_of-plan
unfolding bare_net
invariant_of-plan c = record { placed = c.requires.net.placed }

pub invariant_of-result : goal.invariant_of-result
invariant_of-result c = record { noted = c.requires.fields }

pub returns : goal.returns
returns c = record { file = refl; table = refl; counts = refl; starts = refl; tokens = refl; fields = refl }
