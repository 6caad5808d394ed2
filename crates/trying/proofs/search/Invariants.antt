use mathlib.Core.Path.{◌≡◌}
use mathlib.Core.List.{◌++◌}
use Prim.Native.Nat.{◌≤◌}
use lib.ListN.{length}
use Rattle.trying.specs.Views.{token_of}
use Rattle.trying.specs.Scenes.{rule_in, trial}
use Rattle.trying.proofs.Searching.{from, Before}
use Rattle.trying.proofs.search.Given as goal

abbrev pub invariant-loop-j : goal.invariant-loop-j
invariant-loop-j l = let u = rule_in l.scene l.body in Before (token_of (length u.ins) l.scene.heads.now l.scene.vals.now) (u.ins ++ u.vars) l.j l.at

-- the rules before the next one are quiet
abbrev pub invariant-rules : goal.invariant-rules
invariant-rules l = let f = trial l.net l.scene l.k.0 in record {
  end : l.untried.end ≡ l.count;
  within : l.untried.start ≤ l.count;
  left : from f l.count l.untried.start ≡ from f l.count 0;
}
