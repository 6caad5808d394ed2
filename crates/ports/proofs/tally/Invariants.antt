use Rattle.std.proofs.Common.{◌≡◌, drop}
use Rattle.ports.specs.Ports.{tally_of}
use Rattle.ports.proofs.tally.Given as goal

-- What is left to tally gives the whole. Assumes nothing.
abbrev pub invariant-loop-w : goal.invariant-loop-w
invariant-loop-w l = tally_of l.counts (drop l.w-index l.ws) ≡ tally_of l.initial.counts l.ws
