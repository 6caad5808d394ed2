use Rattle.places.specs.Views.{net_at, state_at}
use Rattle.marking.proofs.Noting.{SoFar}
use Rattle.marking.proofs.mark_all.Given as goal

-- the processes before k are noted
abbrev pub invariant-loop-k : goal.invariant-loop-k
invariant-loop-k l = SoFar (net_at l.feed.site) (state_at l.feed.site l.state) l.total l.k l.set l.rules
