use mathlib.Core.Path.{sym, ◌∙◌}
use borrow.Author.Tests.{eq-eqb, ne_eqb}
use Rattle.values.proofs.Machine.{zero_bits}
use Rattle.evaluation.proofs.if_end.Goals as goal

pub returns-then-x-eq0 : goal.returns-then-x-eq0
returns-then-x-eq0 c = rw (sym (zero_bits c.args.x c.ranges.x) ∙ eq-eqb _ 0 c.if-x-eq0.true)

pub skip-requires : goal.skip-requires
skip-requires c = c.requires (sym (zero_bits c.args.x c.ranges.x) ∙ ne_eqb _ 0 c.if-x-eq0.false)

pub returns : goal.returns
returns c = c.skip.ensures ∙ rw (sym (zero_bits c.args.x c.ranges.x) ∙ ne_eqb _ 0 c.if-x-eq0.false)
