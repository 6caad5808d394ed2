use mathlib.Core.Path.{◌≡◌}
use Prim.Native.Nat.{◌+◌}
use lib.ListN.{length, drop}
use Rattle.bench_c.specs.Heard.{laid}
use Rattle.bench_c.proofs.lay_rules.Given as goal

abbrev pub invariant-loop-i : goal.invariant-loop-i
invariant-loop-i l = (length l.answer ≡ length l.initial.answer) × (laid (4 + l.i) (drop l.i l.rules) l.answer ≡ laid 4 l.rules l.initial.answer)
