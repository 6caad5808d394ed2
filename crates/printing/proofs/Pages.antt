-- A text laid on a page: one part after another.
-- Assumes nothing.
use Prim.Native.Nat.{ℕ, ◌+◌, ◌≤◌, ◌<◌}
use mathlib.Core.Path.{◌≡◌, refl, sym, ap, ◌∙◌}
use mathlib.Core.List.{List, [], ◌∷◌, ◌++◌}
use native.Mathlib.Numerals.{add-one}
use lib.ListN.{length, get_or, drop, set, drop_of_length-le}
use lib.Seq.{drop-cons}
use borrow.Author.Tests.{lt-ltb, le-ltb}
use Rattle.printing.specs.Pages.{Page, page, laid_one, laid}

-- ── a byte ───────────────────────────────────────────────────────────────────────────────────

pub byte_laid : (b at : ℕ) (s : List ℕ) → at < length s → page (at + 1) (set s at b) ≡ laid (b ∷ []) (page at s)
unfolding laid laid_one page
byte_laid b at s h = rw (lt-ltb at (length s) h)

pub page-full : (b at : ℕ) (s : List ℕ) → length s ≤ at → page at s ≡ laid (b ∷ []) (page at s)
unfolding laid laid_one page
page-full b at s h = rw (le-ltb at (length s) h)

-- ── one text after another ───────────────────────────────────────────────────────────────────

laid-append : (x y : List ℕ) (p : Page) → laid (x ++ y) p ≡ laid y (laid x p)
unfolding laid
laid-append [] y p = refl
laid-append (a ∷ x) y p = laid-append x y (laid_one a p)

pub then : (x y : List ℕ) (o : Page) {p q : Page} → p ≡ laid x o → q ≡ laid y p → q ≡ laid (x ++ y) o
then x y o e f = f ∙ ap (laid y) e ∙ sym (laid-append x y o)

-- the same text told otherwise
pub as_said : {x y : List ℕ} (o : Page) {p : Page} → x ≡ y → p ≡ laid x o → p ≡ laid y o
as_said o e f = f ∙ ap (λ (l : List ℕ). laid l o) e

-- no text
pub laid_none : (p : Page) → p ≡ laid [] p
unfolding laid
laid_none p = refl

-- a text byte by byte: what is left of it gives the whole
pub text_turn : (text : List ℕ) (i : ℕ) (o : Page) {p : Page} → i < length text → p ≡ laid (get_or text i 0 ∷ []) o → laid (drop (i + 1) text) p ≡ laid (drop i text) o
unfolding laid
text_turn text i o h e =
    ap (laid (drop (i + 1) text)) e ∙ sym (ap (λ (l : List ℕ). laid l o) (drop-cons text i 0 h ∙ ap (λ (j : ℕ). get_or text i 0 ∷ drop j text) (sym (add-one i))))

pub text_done : (text : List ℕ) (i : ℕ) (o : Page) → length text ≤ i → laid (drop i text) o ≡ o
unfolding laid
text_done text i o h = ap (λ (l : List ℕ). laid l o) (drop_of_length-le text h)
