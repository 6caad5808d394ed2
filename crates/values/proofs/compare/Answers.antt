use native.Mathlib.Omega.{arith}
use borrow.Author.Tests.{ne_eqb}
use mir.Facts.{to_z-of_z}
use Rattle.model.specs.Values.{compare}
use Rattle.values.proofs.Machine.{eqb_bits}
use Rattle.values.proofs.compare.Goals as goal

pub returns-in-20 : goal.returns-in-20
unfolding compare
returns-in-20 c = rw (c.in-20.is, eqb_bits c.args.a c.args.b c.ranges.a c.ranges.b)

pub returns-in-21 : goal.returns-in-21
unfolding compare
returns-in-21 c = rw (c.in-21.is, eqb_bits c.args.a c.args.b c.ranges.a c.ranges.b)

pub returns-in-22 : goal.returns-in-22
unfolding compare
returns-in-22 c = rw (c.in-22.is, to_z-of_z c.ranges.a, to_z-of_z c.ranges.b)

pub returns-in-23 : goal.returns-in-23
unfolding compare
returns-in-23 c = rw (c.in-23.is, to_z-of_z c.ranges.a, to_z-of_z c.ranges.b)

pub returns-in-24 : goal.returns-in-24
unfolding compare
returns-in-24 c = rw (c.in-24.is, to_z-of_z c.ranges.a, to_z-of_z c.ranges.b)

pub returns-in_default : goal.returns-in_default
unfolding compare
returns-in_default c =
    let o = c.args.o in
    rw (to_z-of_z c.ranges.a, to_z-of_z c.ranges.b, ne_eqb o 24 (omega arith), ne_eqb o 23 (omega arith), ne_eqb o 22 (omega arith), ne_eqb o 21 (omega arith), ne_eqb o 20 (omega arith))
