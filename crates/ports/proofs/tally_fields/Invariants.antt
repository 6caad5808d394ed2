use Rattle.std.proofs.Common.{◌≡◌, ℕ, List, drop}
use Rattle.ports.specs.Ports.{tally_of, ports_at}
use Rattle.ports.proofs.tally_fields.Given as goal

-- What is left to tally gives the whole, whatever ports the calls name. Assumes nothing.
abbrev pub invariant-loop-at : goal.invariant-loop-at
invariant-loop-at g l =
    (f : ℕ → List ℕ) → ((o : ℕ) (r : _) → goal.F-post g l.ports o r → r.now ≡ f o) → tally_of l.counts (ports_at f (drop l.at-index l.offsets)) ≡ tally_of l.initial.counts (ports_at f l.offsets)
