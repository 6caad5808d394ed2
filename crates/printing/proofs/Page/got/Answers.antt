use mathlib.Core.Path.{sym, ap, ◌∙◌}
use Prim.Native.Nat.{ℕ}
use lib.ListN.{drop}
use Rattle.model.specs.States.{read_tokens}
use Rattle.model.specs.Printing.{spaced}
use Rattle.printing.proofs.Pages.{as_said}
use Rattle.printing.proofs.Lines.{spaced_turn, spaced_all, spaced_done}
use Rattle.printing.proofs.Page.got.Goals as goal

pub loop-i-preserved : goal.loop-i-preserved
loop-i-preserved c =
    let l = c.loop-i in
    record {
      same = c.token.ensures.same ∙ c.byte.ensures.same ∙ l.invariant.same;
      left = spaced_turn _ _ l.i _ _ c.loop-i-test.true c.token_at.ensures.0 c.byte.ensures.laid c.token.ensures.laid ∙ l.invariant.left;
    }

pub returns : goal.returns
returns c =
    let l = c.loop-i in
    let count = ap (λ (j : ℕ). spaced (read_tokens j (drop 2 c.args.part.now))) c.two_at-count.ensures.0 in
    record { same = l.invariant.same; laid = as_said _ count (sym (spaced_done _ _ l.i _ c.loop-i-test.false) ∙ l.invariant.left ∙ spaced_all _ _ _) }
