use mathlib.Core.Path.{ap}
use Rattle.model.specs.Printing.{decimal, outcome_line}
use Rattle.printing.proofs.Texts.{then, as_said}
use Rattle.printing.proofs.Page.outcome.Goals as goal

pub returns : goal.returns
unfolding outcome_line
returns c =
    let cycles = as_said (ap decimal c.from.ensures) c.decimal.ensures in
    then c.text.ensures (then c.word.ensures (then c.text-2.ensures (then cycles (then c.box_of.ensures c.byte.ensures))))
