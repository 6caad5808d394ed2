use Prim.Native.Nat.{◌≤◌}
use lib.ListN.{length}
use Rattle.token_file.proofs.Laws.{Upto, types_of}
use Rattle.token_file.proofs.token_file.Given as goal

abbrev pub invariant-loop-i : goal.invariant-loop-i
invariant-loop-i l = (l.at ≤ length l.tokens) × Upto (types_of l.net.file.now l.net.table.now l.net.counts) l.tokens l.fields l.at l.i
