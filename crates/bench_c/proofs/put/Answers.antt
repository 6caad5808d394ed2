use mathlib.Core.Path.{sym}
use native.Mathlib.Omega.{arith}
use lib.Seq.{set_out}
use Rattle.bench_c.proofs.put.Goals as goal

pub returns-else-at-answer : goal.returns-else-at-answer
returns-else-at-answer c = sym (set_out _ _ _ (omega arith))
