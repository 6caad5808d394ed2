-- Several tests that hold together, each by itself.
-- Assumes nothing.
use mathlib.Core.Path.{◌≡◌, refl}
use mathlib.Core.Logic.{◌≢◌}
use mathlib.Core.Bool.{Bool, true, false, not, ◌&&◌}
use Prim.Native.Nat.{ℕ}
use native.Mathlib.Omega.{arith}
use lib.Dec.{eqb}
use borrow.Author.Tests.{eqb-true, eqb-false}

pub and_left : (a b : Bool) → (a && b) ≡ true → a ≡ true
and_left true b e = refl
and_left false b e = e

pub and_right : (a b : Bool) → (a && b) ≡ true → b ≡ true
and_right true b e = e
and_right false b e = let z : ◌≡◌ {A = ℕ} 0 1 = cc in absurd (omega arith)

pub both : (a b : Bool) → a ≡ true → b ≡ true → (a && b) ≡ true
both true b e f = f
both false b e f = e

pub and₂ : (a b : Bool) → (a && b) ≡ true → (a ≡ true) × (b ≡ true)
and₂ a b e = (and_left a b e, and_right a b e)

pub and₃ : (a b c : Bool) → (a && b && c) ≡ true → (a ≡ true) × (b ≡ true) × (c ≡ true)
and₃ a b c e = let h = and₂ a b (and_left (a && b) c e) in (h.0, h.1, and_right (a && b) c e)

pub and₄ : (a b c d : Bool) → (a && b && c && d) ≡ true → (a ≡ true) × (b ≡ true) × (c ≡ true) × (d ≡ true)
and₄ a b c d e = let h = and₃ a b c (and_left (a && b && c) d e) in (h.0, h.1, h.2, and_right (a && b && c) d e)

pub and₅ : (a b c d f : Bool) → (a && b && c && d && f) ≡ true → (a ≡ true) × (b ≡ true) × (c ≡ true) × (d ≡ true) × (f ≡ true)
and₅ a b c d f e = let h = and₄ a b c d (and_left (a && b && c && d) f e) in (h.0, h.1, h.2, h.3, and_right (a && b && c && d) f e)

pub not-true : (a : Bool) → not a ≡ true → a ≡ false
not-true true e = let z : ◌≡◌ {A = ℕ} 0 1 = cc in absurd (omega arith)
not-true false e = refl

-- by cases of a test, and of two numbers, the same or not
pub cases : {A : Type 0} (b : Bool) → (b ≡ true → A) → (b ≡ false → A) → A
cases true f g = f refl
cases false f g = g refl

pub same_or : {A : Type 0} (v w : ℕ) → (v ≡ w → A) → (v ≢ w → A) → A
same_or v w f g = cases (eqb v w) (λ e. f (eqb-true v w e)) (λ e. g (eqb-false v w e))
