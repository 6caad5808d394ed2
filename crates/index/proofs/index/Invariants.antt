use Prim.Native.Nat.{◌-◌}
use lib.ListN.{length}
use Rattle.model.proofs.Accepted.{Valid}
use Rattle.table.specs.Table.{index_in}
use Rattle.index.proofs.Going.{Going}
use Rattle.index.proofs.index.Given as goal

abbrev pub invariant-loop-at : goal.invariant-loop-at
invariant-loop-at l = record {
  going : Going l.net l.tab l.c l.at;
  valid : Valid l.net (index_in l.tab l.c);
}

abbrev pub decreases-loop-at : goal.decreases-loop-at
decreases-loop-at l = length l.net - l.at
