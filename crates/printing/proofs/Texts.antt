-- Texts written one after another.
-- Assumes nothing.
use mathlib.Core.Path.{◌≡◌, refl, ◌∙◌}
use mathlib.Core.List.{List, [], ◌∷◌, ◌++◌}
use Prim.Native.Nat.{ℕ}
use Rattle.printing.specs.declared.Page.{Page}
use Rattle.printing.specs.Wrote.{Wrote}
use Rattle.printing.proofs.Pages as pages

pub then : {x y : List ℕ} {p q r : Page} → Wrote x p q → Wrote y q r → Wrote (x ++ y) p r
then a b = record { same = b.same ∙ a.same; laid = pages.then _ _ _ a.laid b.laid }

-- a byte, then a text
pub then_on : {b : ℕ} {y : List ℕ} {p q r : Page} → Wrote (b ∷ []) p q → Wrote y q r → Wrote (b ∷ y) p r
then_on {b} a c = then {x = b ∷ []} a c

-- the same text told otherwise
pub as_said : {x y : List ℕ} {p q : Page} → x ≡ y → Wrote x p q → Wrote y p q
as_said e a = record { same = a.same; laid = pages.as_said _ e a.laid }

-- no text
pub nothing : {p : Page} → Wrote [] p p
nothing = record { same = refl; laid = pages.laid_none _ }
