use Prim.Native.Nat.{◌+◌, ◌-◌, ◌*◌, ◌≤◌}
use mathlib.Core.Path.{◌≡◌}
use lib.ListN.{length}
use Rattle.lookup.specs.Views.{network_of}
use Rattle.output_file.specs.Files.{file_from}
use Rattle.output_file.proofs.output_size.Given as goal

abbrev pub invariant-loop-k : goal.invariant-loop-k
invariant-loop-k l = let n = network_of l.plan.net in record {
  few : l.size ≤ 5003 * (l.k - l.first);
  left : l.size + length (file_from n l.state l.k) ≡ length (file_from n l.state l.first);
}
