use Rattle.std.proofs.Common.{arith, sym, ◌∙◌}
use Rattle.marks.proofs.Laws.{turn_no, turn_yes, turn_high, turn_end}
use Rattle.marks.proofs.order_fits.Goals as goal
use Rattle.marks.proofs.order_fits.Goals.{then-k-ge64-via-then-k-ge64, then-k-ge64-via-else-k-ge64+then-not-is_marked}

pub returns-then-k-ge64 : goal.returns-then-k-ge64
returns-then-k-ge64 c =
    let l = c.loop-k in
    elim c.then-k-ge64.branch [
      | then-k-ge64-via-then-k-ge64 w ↦
          sym (l.invariant.1 ∙ turn_high l.left c.args.order.now l.k-index (omega arith) (omega (arith, c.ranges.set)) w.if-k-ge64.true)
      | then-k-ge64-via-else-k-ge64+then-not-is_marked w ↦
          sym (l.invariant.1 ∙ turn_no l.left c.args.order.now l.k-index (omega arith) (sym w.is_marked.ensures ∙ w.if-not-is_marked.true))
    ]

pub loop-k-preserved : goal.loop-k-preserved
loop-k-preserved c =
    let l = c.loop-k in
    let is = sym c.is_marked.ensures ∙ c.if-not-is_marked.false in
    rw c.without_mark-left.ensures (omega arith, l.invariant.1 ∙ turn_yes l.left c.args.order.now l.k-index (omega arith) is)

pub returns : goal.returns
returns c = sym (c.loop-k.invariant.1 ∙ turn_end c.loop-k.left c.args.order.now c.loop-k.k-index c.loop-k-test.false)
