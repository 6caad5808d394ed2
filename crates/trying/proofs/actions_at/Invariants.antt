use mathlib.Core.Path.{◌≡◌}
use mathlib.Core.List.{◌++◌}
use lib.ListN.{take}
use Rattle.model.specs.Rules.{patterns_size, rule_read, read_rule}
use Rattle.trying.proofs.actions_at.Given as goal

-- so many patterns stand before it
abbrev pub invariant-loop-pattern : goal.invariant-loop-pattern
invariant-loop-pattern l = let u = rule_read (read_rule l.fn.a.ins l.fn.a.outs l.fn.a.vars l.b) in l.at ≡ patterns_size (take l._pattern (u.ins ++ u.vars))
