use mathlib.Core.Path.{◌≡◌}
use native.Mathlib.Omega.{arith}
use borrow.Author.Tests.{ne_eqb}
use lib.IntN.{◌+ℤ◌, ◌-ℤ◌, ◌*ℤ◌}
use lib.Signed.{quot_z, rem_z}
use Rattle.model.specs.Values.{arithmetic}
use Rattle.values.proofs.Machine.{bits_of, is_zero, not_zero, add_fits, sub_fits, mul_fits, quot_fits, rem_fits}
use Rattle.values.proofs.arithmetic.Goals as goal

pub returns-in_default : goal.returns-in_default
unfolding arithmetic
returns-in_default c =
    let o = c.args.o in
    rw (ne_eqb o 12 (omega arith), ne_eqb o 11 (omega arith), ne_eqb o 10 (omega arith), is_zero c.ranges.b c.if-b-eq0.true)

pub returns-in-10 : goal.returns-in-10
unfolding arithmetic
returns-in-10 c =
    let is : c.args.o ≡ 10 = grind arith in
    rw (is, c.wrapped-in-10.ensures, bits_of ◌+ℤ◌ _ _ c.ranges.a c.ranges.b (add_fits c.args.a c.args.b c.requires.a_bound c.requires.b_bound))

pub returns-in-11 : goal.returns-in-11
unfolding arithmetic
returns-in-11 c =
    let is : c.args.o ≡ 11 = grind arith in
    rw (is, c.wrapped-in-11.ensures, bits_of ◌-ℤ◌ _ _ c.ranges.a c.ranges.b (sub_fits c.args.a c.args.b c.requires.a_bound c.requires.b_bound))

pub returns-in-12 : goal.returns-in-12
unfolding arithmetic
returns-in-12 c =
    let is : c.args.o ≡ 12 = grind arith in
    rw (is, c.wrapped-in-12.ensures, bits_of ◌*ℤ◌ _ _ c.ranges.a c.ranges.b (mul_fits c.args.a c.args.b c.requires.a_bound c.requires.b_bound))

pub returns-in-13 : goal.returns-in-13
unfolding arithmetic
returns-in-13 c =
    let fits = quot_fits c.args.a c.args.b c.requires.a_bound c.requires.b_bound in
    rw (c.in-13.is, c.wrapped.ensures, not_zero c.ranges.b c.if-b-eq0.false, bits_of quot_z _ _ c.ranges.a c.ranges.b fits)

pub returns-in_default-2 : goal.returns-in_default-2
unfolding arithmetic
returns-in_default-2 c =
    let o = c.args.o in
    let fits = rem_fits c.args.a c.args.b c.requires.a_bound c.requires.b_bound in
    rw (ne_eqb o 13 (omega arith), ne_eqb o 12 (omega arith), ne_eqb o 11 (omega arith), ne_eqb o 10 (omega arith))
    (rw (c.wrapped-in_default-2.ensures, not_zero c.ranges.b c.if-b-eq0.false, bits_of rem_z _ _ c.ranges.a c.ranges.b fits))
