use Rattle.printing.proofs.Texts.{then_on, as_said}
use Rattle.printing.proofs.Numbers.{minus_first, no_minus}
use Rattle.printing.proofs.Page.signed.Goals as goal
use Rattle.printing.proofs.Page.signed.Goals.{then-value-lt0, else-value-lt0}

pub returns : goal.returns
returns c =
    let size = c.unsigned_abs.ensures.value in
    elim c.if-value-lt0.branch [
      | then-value-lt0 w ↦ as_said (minus_first _ _ c.ranges.value size w.if-value-lt0.true) (then_on w.byte.ensures (rw w.self-is at c.decimal.ensures))
      | else-value-lt0 w ↦ as_said (no_minus _ _ c.ranges.value size w.if-value-lt0.false) (rw w.self-is at c.decimal.ensures)
    ]
