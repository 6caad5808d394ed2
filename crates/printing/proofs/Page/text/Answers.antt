use mathlib.Core.Path.{sym, ◌∙◌}
use Rattle.printing.proofs.Pages.{text_turn, text_done}
use Rattle.printing.proofs.Page.text.Goals as goal

pub loop-byte-preserved : goal.loop-byte-preserved
loop-byte-preserved c =
    let l = c.loop-byte in
    record { same = c.byte.ensures.same ∙ l.invariant.same; left = text_turn c.args.text.now l.byte-index _ c.loop-byte-test.true c.byte.ensures.laid ∙ l.invariant.left }

pub returns : goal.returns
returns c =
    let l = c.loop-byte in
    record { same = l.invariant.same; laid = sym (text_done c.args.text.now l.byte-index _ c.loop-byte-test.false) ∙ l.invariant.left }
