use Prim.Native.Nat.{◌<◌, ◌+◌, ◌%◌}
use mathlib.Core.Path.{refl, ◌∙◌}
use native.Mathlib.Omega.{arith}
use lib.ListN.{length-set}
use Rattle.model.specs.Printing.{decimal}
use Rattle.printing.proofs.Texts.{as_said}
use Rattle.printing.proofs.Numbers.{digits_turn, digits_done}
use Rattle.printing.proofs.Page.decimal.Goals as goal
use Rattle.printing.proofs.Page.decimal.Goals.{then-loop-first-test+else-n-ge10, else-loop-first-test}

pub loop-first-init : goal.loop-first-init
loop-first-init c = (omega arith, refl, unfold decimal in refl)

pub loop-first-preserved : goal.loop-first-preserved
loop-first-preserved c =
    let l = c.loop-first in
    let more = c.if-n-ge10.true in
    (omega arith, length-set l.digits l.first _ ∙ l.invariant.1, digits_turn l.digits l.first l.n _ (omega (arith, l.invariant.0, l.invariant.1)) c.loop-first-test.true more refl ∙ l.invariant.2)

pub slice_bounds-text-end : goal.slice_bounds-text-end
slice_bounds-text-end c =
    let l = c.loop-first in
    omega (arith, length-set l.digits l.first (48 + l.n % 10), l.invariant.1)

pub returns : goal.returns
returns c =
    let l = c.loop-first in
    let few : 0 < l.first → l.n < 10 = elim c.loop-first-test.branch [
      | then-loop-first-test+else-n-ge10 w ↦ λ h. w.if-n-ge10.false
      | else-loop-first-test w ↦ λ h. absurd (omega (arith, w.loop-first-test.false, h))
    ] in
    as_said (digits_done l.digits l.first l.n _ _ l.invariant.1 l.invariant.0 few refl l.invariant.2) c.text.ensures
