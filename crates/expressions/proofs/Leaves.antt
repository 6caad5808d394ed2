-- An expression with no operands at an offset: its head is the whole of it.
-- Assumes nothing.
use mathlib.Core.Path.{◌≡◌, sym, ◌∙◌}
use mathlib.Core.Bool.{true, ◌||◌}
use mathlib.Core.List.{List, []}
use Prim.Native.Nat.{ℕ, ◌+◌, ◌≤◌}
use native.Mathlib.Omega.{arith}
use lib.Dec.{eqb}
use lib.ListN.{get_or, drop, length}
use borrow.Author.Tests.{eq-eqb}
use Rattle.model.specs.declared.Ty.{Ty}
use Rattle.model.specs.Expressions.{got, after, read_many, head_size, operands, head_fits, type_at, build, expression}
use Rattle.expressions.specs.Reading.{precise_head}
use Rattle.expressions.proofs.Reading.{some_exp, head_pos}
use Rattle.expressions.proofs.Heads.{head_at, fits_whole, named_precise}
use Rattle.expressions.proofs.Depths.{two_left}
use Rattle.expressions.proofs.Shapes.{no_operand}

pub record Leaf : Type 0 where
  pub s : List ℕ
  pub at : ℕ
  pub c : ℕ
  pub head : c ≡ get_or s at 0
  pub inside : at ≤ length s
  pub whole : head_fits (drop at s) ≡ true
  pub bare : operands (get_or s at 0) ≡ 0

abbrev pub leaf_at : (s : List ℕ) (at : ℕ) {c : ℕ} → c ≡ get_or s at 0 → at ≤ length s → head_fits (drop at s) ≡ true → operands (get_or s at 0) ≡ 0 → Leaf
leaf_at s at {c} e l w o = record { s = s; at = at; c = c; head = e; inside = l; whole = w; bare = o }

module _ (x : Leaf) where
  pub leaf_there : get_or (drop x.at x.s) 0 0 ≡ x.c
  leaf_there = head_at x.at x.s ∙ sym x.head

  leaf_bare : operands x.c ≡ 0
  leaf_bare = rw x.head x.bare

  pub leaf_read : expression (drop x.at x.s) ≡ got (build (drop x.at x.s) []) (head_size x.c + 0)
  unfolding after read_many
  leaf_read = some_exp (drop x.at x.s) x.whole ∙ rw (leaf_there, leaf_bare)

  pub leaf_inside : x.at + 1 ≤ length x.s
  leaf_inside = omega (arith, fits_whole x.s x.at x.c x.head x.whole, head_pos x.c)

  pub leaf_two : (x.c ≡ 0 → ⊥) → (x.c ≡ 1 → ⊥) → x.c ≡ 2
  leaf_two e f = two_left x.c (no_operand x.c leaf_bare) e f

  -- the precision that a literal names
  pub leaf_precise : {t : Ty} → x.c ≡ 0 → precise_head (drop x.at x.s) ≡ true → t ≡ type_at x.s (x.at + 1) → (1 ≤ t.p) × (t.p ≤ 62)
  leaf_precise e p q =
      let n : (eqb x.c 0 || eqb x.c 3) ≡ true = rw (eq-eqb x.c 0 e) in
      named_precise x.s x.at x.c x.head n p q
