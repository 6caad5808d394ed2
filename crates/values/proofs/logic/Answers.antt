use native.Mathlib.Omega.{arith}
use borrow.Author.Tests.{ne_eqb}
use Rattle.model.specs.Values.{logic, is_true}
use Rattle.values.proofs.Machine.{zero_bits, is_zero, not_zero}
use Rattle.values.proofs.logic.Goals as goal

pub returns-then-a-ne0 : goal.returns-then-a-ne0
unfolding logic is_true
returns-then-a-ne0 c = rw (c.in-26.is, zero_bits c.args.b c.ranges.b, not_zero c.ranges.a c.if-a-ne0.true)

pub returns-else-a-ne0 : goal.returns-else-a-ne0
unfolding logic is_true
returns-else-a-ne0 c = rw (c.in-26.is, zero_bits c.args.a c.ranges.a, is_zero c.ranges.a c.if-a-ne0.false)

pub returns-then-a-ne0-2 : goal.returns-then-a-ne0-2
unfolding logic is_true
returns-then-a-ne0-2 c = rw (ne_eqb c.args.o 26 (omega arith), zero_bits c.args.a c.ranges.a, not_zero c.ranges.a c.if-a-ne0-2.true)

pub returns-else-a-ne0-2 : goal.returns-else-a-ne0-2
unfolding logic is_true
returns-else-a-ne0-2 c = rw (ne_eqb c.args.o 26 (omega arith), zero_bits c.args.b c.ranges.b, is_zero c.ranges.a c.if-a-ne0-2.false)
