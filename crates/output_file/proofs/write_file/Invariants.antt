use Prim.Native.Nat.{◌≤◌}
use lib.ListN.{length}
use Rattle.lookup.specs.Views.{network_of}
use Rattle.output_file.proofs.Laws.{Written}
use Rattle.output_file.proofs.write_file.Given as goal

abbrev pub invariant-loop-k : goal.invariant-loop-k
invariant-loop-k l = record {
  inside : l.at ≤ length l.initial.out;
  written : Written (network_of l.plan.net) l.state l.first l.initial.out l.out l.at l.k;
}
