-- What writing a text leaves of a page.
-- Assumes nothing.
use Rattle.std.specs.Prelude.{◌≡◌, List, ℕ}
use Rattle.printing.specs.declared.Page.{Page}
use Rattle.printing.specs.Pages.{page, laid}

-- the text is laid from p's place on, in the same lent buffer; q is the page behind it
pub record Wrote (text : List ℕ) (p q : Page) : Type 0 where
  pub same : q.buf.ghost_name ≡ p.buf.ghost_name
  pub laid : page q.at q.buf.now ≡ laid text (page p.at p.buf.now)
