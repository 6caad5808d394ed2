-- The head of an expression at an offset: which code it has, and whether it is whole.
-- Assumes nothing.
use mathlib.Core.Path.{◌≡◌, refl, sym, ◌∙◌}
use mathlib.Core.Bool.{Bool, true, false, not, ◌&&◌, ◌||◌}
use mathlib.Core.List.{List}
use Prim.Native.Nat.{ℕ, ◌+◌, ◌-◌, ◌≤◌}
use native.Mathlib.Nat.{add-zero}
use native.Mathlib.Omega.{arith}
use lib.Dec.{leb, ltb, eqb}
use lib.ListN.{get_or, drop, length, length-drop}
use lib.Seq.{get_or-drop}
use borrow.Author.Tests.{leb-true, ltb-true}
use Rattle.model.specs.declared.Ty.{Ty}
use Rattle.model.specs.Values.{in_precision}
use Rattle.model.specs.Expressions.{head_size, known_code, known_kind, head_fits, type_at}
use Rattle.model.proofs.Tests.{and_left, and_right}
use Rattle.expressions.specs.Reading.{precise_head}
use Rattle.expressions.proofs.Reading.{head_pos}

pub head_at : (at : ℕ) (s : List ℕ) → get_or (drop at s) 0 0 ≡ get_or s at 0
head_at at s = get_or-drop at s 0 0 ∙ rw (add-zero at)

-- what is tested of a head, by the bytes at its offset
module _ (s : List ℕ) (at : ℕ) where
  pub fits_is :
      head_fits (drop at s)
      ≡ (ltb 0 (length s - at) && known_code (get_or s at 0) && leb (head_size (get_or s at 0)) (length s - at) && (not (eqb (get_or s at 0) 0 || eqb (get_or s at 0) 3) || leb (get_or s (at + 1) 0) 4))
  unfolding head_fits known_kind
  fits_is = rw (length-drop at s, head_at at s, get_or-drop at s 1 0)

  pub precise_is : precise_head (drop at s) ≡ (not (eqb (get_or s at 0) 0 || eqb (get_or s at 0) 3) || in_precision (type_at s (at + 1)))
  unfolding precise_head type_at
  precise_is = let two : at + 2 ≡ at + 1 + 1 = omega arith in rw (head_at at s, get_or-drop at s 1 0, get_or-drop at s 2 0, two)

first_third : (a b c d : Bool) → (a && b && c && d) ≡ true → (a ≡ true) × (c ≡ true)
first_third true true true d e = (refl, refl)
first_third true true false d e = absurd cc
first_third true false c d e = absurd cc
first_third false b c d e = absurd cc

module _ (s : List ℕ) (at c : ℕ) (h : c ≡ get_or s at 0) where
  head_is : get_or (drop at s) 0 0 ≡ c
  head_is = head_at at s ∙ sym h

  precise_named : (eqb c 0 || eqb c 3) ≡ true → precise_head (drop at s) ≡ in_precision (type_at s (at + 1))
  precise_named e = precise_is s at ∙ rw (sym h, e)

  -- the precision that a literal or a cast names is 1 to 30
  pub named_precise : {t : Ty} → (eqb c 0 || eqb c 3) ≡ true → precise_head (drop at s) ≡ true → t ≡ type_at s (at + 1) → (1 ≤ t.p) × (t.p ≤ 62)
  unfolding in_precision
  named_precise {t} n p q =
      let w : (leb 1 t.p && leb t.p 30) ≡ true = rw q (sym (precise_named n) ∙ p) in
      let high = leb-true t.p 30 (and_right (leb 1 t.p) (leb t.p 30) w) in
      (leb-true 1 t.p (and_left (leb 1 t.p) (leb t.p 30) w), omega arith)

  -- a head that fits is whole
  pub fits_whole : head_fits (drop at s) ≡ true → at + head_size c ≤ length s
  unfolding head_fits
  fits_whole e =
      let w = first_third (ltb 0 (length (drop at s))) (known_code (get_or (drop at s) 0 0)) (leb (head_size (get_or (drop at s) 0 0)) (length (drop at s))) (known_kind (get_or (drop at s) 0 0) (get_or (drop at s) 1 0)) e in
      let v : head_size c ≤ length (drop at s) = rw head_is at (leb-true (head_size (get_or (drop at s) 0 0)) (length (drop at s)) w.1) in
      omega (arith, length-drop at s, ltb-true 0 (length (drop at s)) w.0, head_pos c)
