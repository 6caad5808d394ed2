use mathlib.Core.Path.{◌≡◌}
use Rattle.states.proofs.Loads.{loaded_boxes}
use Rattle.states.proofs.load.Given as goal

abbrev pub invariant-loop-k : goal.invariant-loop-k
invariant-loop-k l = l.state ≡ loaded_boxes l.plan.net.file.now l.plan.net.table.now l.plan.net.counts l.initial.state l.k
