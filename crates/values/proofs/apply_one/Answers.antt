use mathlib.Core.Path.{◌≡◌, refl}
use mathlib.Core.Bool.{Bool, true, false, not}
use native.Mathlib.Omega.{arith}
use borrow.Author.Tests.{ne_eqb}
use lib.IntN.{pos}
use lib.Pow.{le_ones}
use mir.Facts.{to_z-of_z}
use Rattle.model.specs.Values.{apply_one, bool, is_true, eq_z}
use Rattle.values.proofs.Machine.{back, zero_bits}
use Rattle.model.proofs.Wrapping.{pattern_lt}
use Rattle.values.proofs.apply_one.Goals as goal

not-not : (b : Bool) → not (not b) ≡ b
not-not true = refl
not-not false = refl

pub returns-in-4 : goal.returns-in-4
unfolding apply_one bool is_true
returns-in-4 c = let a = c.args.a in rw (back c.truth.type_inv, c.truth.ensures, zero_bits a c.ranges.a, c.in-4.is, not-not (eq_z a (pos 0)))

pub overflow_sub-ones : goal.overflow_sub-ones
overflow_sub-ones c = rw (c.ones.ensures, c.pattern.ensures, to_z-of_z c.ranges.a) (le_ones c.args.t.p (pattern_lt c.args.t c.args.a))

pub returns-in_default : goal.returns-in_default
unfolding apply_one bool is_true
returns-in_default c =
    rw (back c.read_back.type_inv, c.read_back.ensures, c.ones.ensures, c.pattern.ensures, to_z-of_z c.ranges.a, ne_eqb c.args.o 4 (omega arith))
