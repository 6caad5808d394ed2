use mathlib.Core.Path.{◌≡◌}
use Rattle.printing.specs.Pages.{page, laid}
use Rattle.printing.proofs.Lines.{spaced_from}
use Rattle.printing.proofs.Page.got.Given as goal

abbrev pub invariant-loop-i : goal.invariant-loop-i
invariant-loop-i l = record {
  same : l.self.buf.ghost_name ≡ l.initial.self.buf.ghost_name;
  left : laid (spaced_from l.part l.count l.i) (page l.self.at l.self.buf.now) ≡ laid (spaced_from l.part l.count 0) (page l.initial.self.at l.initial.self.buf.now);
}
