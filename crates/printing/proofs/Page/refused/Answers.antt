use mathlib.Core.Path.{ap, ◌∙◌}
use Rattle.model.specs.Printing.{decimal, refused_line}
use Rattle.printing.proofs.Texts.{then, as_said}
use Rattle.printing.proofs.Page.refused.Goals as goal

pub returns : goal.returns
unfolding refused_line
returns c =
    let number = as_said (ap decimal (c.from.ensures ∙ c.number.ensures)) c.decimal.ensures in
    then c.text.ensures (then number (then c.text-2.ensures (then c.decimal-2.ensures c.byte.ensures)))
