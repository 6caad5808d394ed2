use native.Mathlib.Omega.{arith}
use borrow.Author.Tests.{le-leb, lt-leb}
use mir.Facts.{to_z-of_z}
use Rattle.model.specs.Values.{apply, bool}
use Rattle.values.proofs.Machine.{back}
use Rattle.values.proofs.apply.Goals as goal

pub returns-in-0-to-14 : goal.returns-in-0-to-14
unfolding apply bool
returns-in-0-to-14 c =
    rw (c.arithmetic.ensures, to_z-of_z c.ranges.a, to_z-of_z c.ranges.b, le-leb c.args.o 14 (omega arith))

pub returns-in-15-to-19 : goal.returns-in-15-to-19
unfolding apply bool
returns-in-15-to-19 c =
    rw (back c.bitwise.type_inv, c.bitwise.ensures, to_z-of_z c.ranges.a, to_z-of_z c.ranges.b, lt-leb c.args.o 14 (omega arith), le-leb c.args.o 19 (omega arith))

pub returns-in-20-to-25 : goal.returns-in-20-to-25
unfolding apply bool
returns-in-20-to-25 c =
    rw (back c.truth.type_inv, c.truth.ensures, c.compare.ensures, to_z-of_z c.ranges.a, to_z-of_z c.ranges.b)
    (rw (lt-leb c.args.o 14 (omega arith), lt-leb c.args.o 19 (omega arith), le-leb c.args.o 25 (omega arith)))

pub returns-in_default : goal.returns-in_default
unfolding apply bool
returns-in_default c =
    rw (back c.truth-in_default.type_inv, c.truth-in_default.ensures, c.logic.ensures, to_z-of_z c.ranges.a, to_z-of_z c.ranges.b)
    (rw (lt-leb c.args.o 14 (omega arith), lt-leb c.args.o 19 (omega arith), lt-leb c.args.o 25 (omega arith)))
