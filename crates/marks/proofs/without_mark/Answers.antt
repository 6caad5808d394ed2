use native.Mathlib.Omega.{arith}
use Rattle.marks.proofs.Laws.{clear_form}
use Rattle.marks.proofs.without_mark.Goals as goal

pub returns : goal.returns
returns c = clear_form c.args.set c.args.k.0 c.requires.0 (omega (arith, c.ranges.set)) c.requires.1
