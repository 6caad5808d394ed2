use Rattle.model.specs.Printing.{output_line}
use Rattle.printing.proofs.Texts.{then, then_on}
use Rattle.printing.proofs.Page.output.Goals as goal

pub returns : goal.returns
unfolding output_line
returns c = then c.text.ensures (then c.decimal.ensures (then_on c.byte.ensures (then c.got.ensures c.byte-2.ensures)))
