use Prim.Native.Nat.{◌+◌}
use mathlib.Core.Path.{◌≡◌}
use Rattle.places.specs.Views.{net_at, state_at}
use Rattle.printing.specs.Pages.{page, laid}
use Rattle.printing.proofs.Lines.{lines_from}
use Rattle.printing.proofs.Page.outputs.Given as goal

abbrev pub invariant-loop-i : goal.invariant-loop-i
invariant-loop-i l =
    let n = net_at l.site in
    let st = state_at l.site l.state in
    record {
      same : l.self.buf.ghost_name ≡ l.initial.self.buf.ghost_name;
      left : laid (lines_from n st l.i (l.first + l.i)) (page l.self.at l.self.buf.now) ≡ laid (lines_from n st 0 l.first) (page l.initial.self.at l.initial.self.buf.now);
    }
