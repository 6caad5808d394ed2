use mathlib.Core.Path.{◌≡◌}
use lib.ListN.{drop}
use Rattle.printing.specs.Pages.{page, laid}
use Rattle.printing.proofs.Page.text.Given as goal

abbrev pub invariant-loop-byte : goal.invariant-loop-byte
invariant-loop-byte l = record {
  same : l.self.buf.ghost_name ≡ l.initial.self.buf.ghost_name;
  left : laid (drop l.byte-index l.text) (page l.self.at l.self.buf.now) ≡ laid l.text (page l.initial.self.at l.initial.self.buf.now);
}
