use mathlib.Core.Path.{ap, ◌∙◌}
use Prim.Native.Nat.{ℕ, ◌+◌}
use native.Mathlib.Omega.{arith}
use Rattle.rules.proofs.Ends.{pattern_whole_there, pattern_ends}
use Rattle.rules.proofs.skip_pattern.Goals as goal

pub bounds-b-at : goal.bounds-b-at
bounds-b-at c = (pattern_whole_there c.args.b.now c.args.at c.requires).0

pub overflow_add-result : goal.overflow_add-result
overflow_add-result c =
    record { fits = omega (arith, (pattern_whole_there c.args.b.now c.args.at c.requires).1, c.pattern_size.ensures, c.well_formed.0.0) }

pub returns : goal.returns
returns c =
    ap (λ (n : ℕ). c.args.at + n) c.pattern_size.ensures ∙ pattern_ends c.args.b.now c.args.at c.requires
