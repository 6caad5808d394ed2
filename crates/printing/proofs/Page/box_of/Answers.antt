use mathlib.Core.Path.{sym, ap}
use Rattle.model.specs.Printing.{decimal, box_part}
use Rattle.printing.proofs.Texts.{then, as_said, nothing}
use Rattle.printing.proofs.Numbers.{no_box}
use Rattle.printing.proofs.Page.box_of.Goals as goal

pub returns-in-Fault : goal.returns-in-Fault
unfolding box_part
returns-in-Fault c = as_said (sym (ap box_part c.in-Fault.is)) (then c.text.ensures (as_said (ap decimal c.from.ensures) c.decimal.ensures))

pub returns-in_default : goal.returns-in_default
returns-in_default c = as_said (no_box c.args.ending c.in_default.not-Fault) nothing
