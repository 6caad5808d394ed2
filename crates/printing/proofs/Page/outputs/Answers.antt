use Prim.Native.Nat.{ℕ, ◌+◌}
use mathlib.Core.Path.{◌≡◌, sym, ap, ◌∙◌}
use mathlib.Core.List.{List}
use native.Mathlib.Omega.{arith}
use Rattle.places.specs.Views.{net_at, state_at}
use Rattle.printing.specs.Pages.{page, laid}
use Rattle.printing.proofs.Pages.{as_said, laid_none}
use Rattle.printing.proofs.Lines.{lines_from, lines_all, lines_done, lines_next}
use Rattle.printing.proofs.Page.outputs.Goals as goal

pub loop-i-preserved : goal.loop-i-preserved
loop-i-preserved c =
    let l = c.loop-i in
    let site = c.args.site.now in
    let first = site.plan.net.counts.boxes + site.plan.net.counts.inputs in
    let next : first + (l.i + 1) ≡ first + l.i + 1 = omega arith in
    let line = lines_next _ _ _ _ _ _ c.requires (first + l.i) (omega arith) (omega (arith, c.loop-i-test.true)) l.i _ _ c.own_part-part.ensures c.output.ensures.laid in
    record {
      same = c.output.ensures.same ∙ l.invariant.same;
      left = ap (λ (k : ℕ). laid (lines_from (net_at site) (state_at site c.args.state.now) (l.i + 1) k) (page c.output.new.self.at c.output.new.self.buf.now)) next ∙ line ∙ l.invariant.left;
    }

pub returns : goal.returns
returns c =
    let l = c.loop-i in
    let none = lines_done _ _ _ _ _ _ c.requires l.i (c.args.site.now.plan.net.counts.boxes + c.args.site.now.plan.net.counts.inputs + l.i) (omega (arith, c.loop-i-test.false)) in
    let left = ap (λ (text : List ℕ). laid text (page l.self.at l.self.buf.now)) none in
    record { same = l.invariant.same; laid = as_said _ (sym (lines_all _ _ _ _ _ _ c.requires)) (laid_none _ ∙ sym left ∙ l.invariant.left) }
