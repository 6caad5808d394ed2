use Rattle.std.proofs.Common.{◌≡◌, ◌-◌}
use Rattle.rules.specs.Bodies.{read_from, read_to}
use Rattle.rules.proofs.read_to.Given as goal

abbrev pub invariant-loop-k : goal.invariant-loop-k
invariant-loop-k l = read_from l.a l.b (l.n - l.k) l.k l.at ≡ read_to l.a l.b
