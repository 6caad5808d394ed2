-- An expression by its head and its operands: which expression it is, by the code.
-- Assumes nothing.
use mathlib.Core.Path.{◌≡◌, refl}
use mathlib.Core.Bool.{Bool, true, false, cond}
use mathlib.Core.List.{List, [], ◌∷◌}
use Prim.Native.Nat.{ℕ, ◌≤◌}
use native.Mathlib.Omega.{arith}
use lib.Dec.{leb}
use lib.ListN.{get_or}
use borrow.Author.Tests.{le-leb, lt-leb, ne_eqb, leb-true, leb-false}
use Rattle.model.specs.Bytes.{value_at}
use Rattle.model.specs.Expressions.{Exp, literal, matched, variable, cast, one, two, if, operands, type_at, build}

-- ── the code by the count of operands ────────────────────────────────────────────────────────

-- what a count of operands says of the code
record ByCount (c k : ℕ) : Type 0 where
  none : k ≡ 0 → c ≤ 2
  one : k ≡ 1 → (3 ≤ c) × (c ≤ 5)
  two : k ≡ 2 → (6 ≤ c) × (c ≤ 27)
  three : k ≡ 3 → 28 ≤ c
  most : k ≤ 3

by_tests : (x y z : Bool) (c : ℕ) → leb c 2 ≡ x → leb c 5 ≡ y → leb c 27 ≡ z → ByCount c (cond x 0 (cond y 1 (cond z 2 3)))
by_tests true y z c e f g = record {
  none = λ i. leb-true c 2 e;
  one = λ i. absurd (omega arith);
  two = λ i. absurd (omega arith);
  three = λ i. absurd (omega arith);
  most = omega arith;
}
by_tests false true z c e f g = record {
  none = λ i. absurd (omega arith);
  one = λ i. (leb-false c 2 e, leb-true c 5 f);
  two = λ i. absurd (omega arith);
  three = λ i. absurd (omega arith);
  most = omega arith;
}
by_tests false false true c e f g = record {
  none = λ i. absurd (omega arith);
  one = λ i. absurd (omega arith);
  two = λ i. (leb-false c 5 f, leb-true c 27 g);
  three = λ i. absurd (omega arith);
  most = omega arith;
}
by_tests false false false c e f g = record {
  none = λ i. absurd (omega arith);
  one = λ i. absurd (omega arith);
  two = λ i. absurd (omega arith);
  three = λ i. leb-false c 27 g;
  most = omega arith;
}

module _ (c : ℕ) where
  by_count : ByCount c (operands c)
  unfolding operands
  by_count = by_tests (leb c 2) (leb c 5) (leb c 27) c refl refl refl

  pub no_operand : operands c ≡ 0 → c ≤ 2
  no_operand = by_count.none

  pub one_operand : operands c ≡ 1 → (3 ≤ c) × (c ≤ 5)
  one_operand = by_count.one

  pub two_operands : operands c ≡ 2 → (6 ≤ c) × (c ≤ 27)
  two_operands = by_count.two

  pub three_operands : operands c ≡ 3 → 28 ≤ c
  three_operands = by_count.three

  pub at_most_three : operands c ≤ 3
  at_most_three = by_count.most

-- ── the expression by the code ───────────────────────────────────────────────────────────────

module _ (s : List ℕ) (c : ℕ) (h : get_or s 0 0 ≡ c) where
  pub build-literal : (es : List Exp) → c ≡ 0 → build s es ≡ literal (type_at s 1) (value_at s 3)
  unfolding build
  build-literal es e = rw (h, e)

  pub build-matched : (es : List Exp) → c ≡ 1 → build s es ≡ matched (get_or s 1 0)
  unfolding build
  build-matched es e = rw (h, e)

  pub build-variable : (es : List Exp) → c ≡ 2 → build s es ≡ variable (get_or s 1 0)
  unfolding build
  build-variable es e = rw (h, e)

  pub build-cast : (x : Exp) → c ≡ 3 → build s (x ∷ []) ≡ cast (type_at s 1) x
  unfolding build
  build-cast x e = rw (h, e)

  pub build_one : (x : Exp) → 4 ≤ c → c ≤ 5 → build s (x ∷ []) ≡ one c x
  unfolding build
  build_one x a b = rw (h, ne_eqb c 0 (λ i. omega arith), ne_eqb c 1 (λ i. omega arith), ne_eqb c 2 (λ i. omega arith), ne_eqb c 3 (λ i. omega arith), le-leb c 5 b)

  pub build_two : (x y : Exp) → 6 ≤ c → c ≤ 27 → build s (x ∷ y ∷ []) ≡ two c x y
  unfolding build
  build_two x y a b = rw (h, ne_eqb c 0 (λ i. omega arith), ne_eqb c 1 (λ i. omega arith), ne_eqb c 2 (λ i. omega arith), ne_eqb c 3 (λ i. omega arith), lt-leb c 5 (omega arith), le-leb c 27 b)

  pub build-if : (x y z : Exp) → 28 ≤ c → build s (x ∷ y ∷ z ∷ []) ≡ if x y z
  unfolding build
  build-if x y z a = rw (h, ne_eqb c 0 (λ i. omega arith), ne_eqb c 1 (λ i. omega arith), ne_eqb c 2 (λ i. omega arith), ne_eqb c 3 (λ i. omega arith), lt-leb c 5 (omega arith), lt-leb c 27 (omega arith))
