use Prim.Native.Nat.{◌<◌}
use Rattle.saved.proofs.sum.Given as goal

abbrev pub invariant-loop-byte : goal.invariant-loop-byte
invariant-loop-byte l = l.h < 65521
