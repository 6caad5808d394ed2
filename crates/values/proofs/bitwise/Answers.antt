use mathlib.Core.Path.{◌≡◌}
use Prim.Native.Nat.{ℕ, ◌^◌, ◌<◌}
use native.Mathlib.Nat.{div-le_self, lt_of_le_of_lt}
use native.Mathlib.Omega.{arith}
use borrow.Author.Tests.{ne_eqb}
use lib.IntN.{ℤ}
use lib.Bits.{and_lt, or_lt}
use lib.Pow.{le_ones}
use mir.Syntax.{w64}
use mir.Val.{SFits, to_z, of_z}
use mir.Facts.{to_z-of_z}
use Rattle.model.specs.declared.Ty.{Ty}
use Rattle.model.specs.Bytes.{mod_z}
use Rattle.model.specs.Values.{pattern, bitwise}
use Rattle.values.proofs.Machine.{back, shift_need, shift_fits}
use Rattle.model.proofs.Wrapping.{pattern_lt, mod_z_lt}
use Rattle.values.proofs.bitwise.Goals as goal

-- the pattern of a value, from its bits
module _ (t : Ty) {a : ℤ} {x : ℕ} (h : SFits w64 a) (e : x ≡ pattern t (to_z w64 (of_z w64 a))) where
  pattern_is : x ≡ pattern t a
  pattern_is = rw (to_z-of_z h) at e

  below : x < 2 ^ t.p
  below = rw pattern_is (pattern_lt t a)

-- the count of a shift: five bits
module _ {b : ℤ} {n : ℕ} (h : SFits w64 b) (e : n ≡ pattern (record { kind = 2; p = 5 }) (to_z w64 (of_z w64 b))) where
  count_is : n ≡ mod_z b 32
  unfolding pattern
  count_is = pattern_is (record { kind = 2; p = 5 }) h e

  count_lt : n < 32
  count_lt = rw count_is (mod_z_lt b 32 (omega arith))

pub read_back-requires-clause-n_bound : goal.read_back-requires-clause-n_bound
read_back-requires-clause-n_bound c = and_lt _ _ _ (below c.args.t c.ranges.a c.pattern-x.ensures) (below c.args.t c.ranges.b c.pattern-y.ensures)

pub read_back-requires-in-16-clause-n_bound : goal.read_back-requires-in-16-clause-n_bound
read_back-requires-in-16-clause-n_bound c = or_lt _ _ _ (below c.args.t c.ranges.a c.pattern-x.ensures) (below c.args.t c.ranges.b c.pattern-y.ensures)

pub overflow_sub-ones : goal.overflow_sub-ones
overflow_sub-ones c = rw c.ones.ensures (le_ones c.args.t.p (and_lt _ _ _ (below c.args.t c.ranges.a c.pattern-x.ensures) (below c.args.t c.ranges.b c.pattern-y.ensures)))

pub overflow_cast-n : goal.overflow_cast-n
overflow_cast-n c = record { sfits = omega (arith, count_lt c.ranges.b c.pattern-n.ensures) }

pub overflow_shl-n : goal.overflow_shl-n
overflow_shl-n c = omega (arith, count_lt c.ranges.b c.pattern-n.ensures)

pub overflow_mul-a : goal.overflow_mul-a
overflow_mul-a c =
    let n_lt = count_lt c.ranges.b c.pattern-n.ensures in
    rw (shift_need c.args.a _ c.requires.a_bound n_lt) (shift_fits c.args.a _ c.requires.a_bound n_lt)

pub overflow_shr-x : goal.overflow_shr-x
overflow_shr-x c = omega (arith, count_lt c.ranges.b c.pattern-n.ensures)

pub read_back-requires-in_default-clause-n_bound : goal.read_back-requires-in_default-clause-n_bound
read_back-requires-in_default-clause-n_bound c = lt_of_le_of_lt (div-le_self c.pattern-x.result (2 ^ c.pattern-n.result)) (below c.args.t c.ranges.a c.pattern-x.ensures)

pub returns-in-15 : goal.returns-in-15
unfolding bitwise
returns-in-15 c =
    rw (c.in-15.is, back c.read_back.type_inv, c.read_back.ensures, pattern_is c.args.t c.ranges.a c.pattern-x.ensures, pattern_is c.args.t c.ranges.b c.pattern-y.ensures)

pub returns-in-16 : goal.returns-in-16
unfolding bitwise
returns-in-16 c =
    let r = c.read_back-in-16 in
    rw (c.in-16.is, back r.type_inv, r.ensures, pattern_is c.args.t c.ranges.a c.pattern-x.ensures, pattern_is c.args.t c.ranges.b c.pattern-y.ensures)

pub returns-in-17 : goal.returns-in-17
unfolding bitwise
returns-in-17 c =
    let r = c.read_back-in-17 in
    rw (c.in-17.is, back r.type_inv, r.ensures, c.ones.ensures, pattern_is c.args.t c.ranges.a c.pattern-x.ensures, pattern_is c.args.t c.ranges.b c.pattern-y.ensures)

pub returns-in-18 : goal.returns-in-18
unfolding bitwise
returns-in-18 c =
    let a = c.args.a in
    let l = c.requires.a_bound in
    let n_is = count_is c.ranges.b c.pattern-n.ensures in
    let n_lt = count_lt c.ranges.b c.pattern-n.ensures in
    rw (c.in-18.is, back c.wrap.type_inv, c.wrap.ensures, shift_need a _ l n_lt, to_z-of_z (shift_fits a _ l n_lt), n_is)

pub returns-in_default : goal.returns-in_default
unfolding bitwise
returns-in_default c =
    let o = c.args.o in
    let b = c.read_back-in_default in
    let x_is = pattern_is c.args.t c.ranges.a c.pattern-x.ensures in
    let n_is = count_is c.ranges.b c.pattern-n.ensures in
    rw (back b.type_inv, b.ensures, ne_eqb o 18 (omega arith), ne_eqb o 17 (omega arith), ne_eqb o 16 (omega arith), ne_eqb o 15 (omega arith), x_is, n_is)
