-- Literals and references: their types, where they stand in the bytes.
-- Assumes nothing.
use mathlib.Core.Path.{◌≡◌, refl, sym, ◌∙◌}
use mathlib.Core.Bool.{Bool, true, false, cond, ◌&&◌}
use mathlib.Core.List.{List, []}
use Prim.Native.Nat.{ℕ, zero, suc, ◌+◌, ◌-◌, ◌*◌}
use native.Mathlib.Omega.{arith}
use lib.Dec.{ltb, eqb}
use lib.IntN.{ℤ}
use lib.ListN.{get_or, drop}
use lib.Seq.{get_or-drop}
use borrow.Author.Tests.{le-ltb, eqb-true, eqb-false}
use Rattle.model.specs.declared.Ty.{Ty}
use Rattle.model.specs.Bytes.{value_at, four_at}
use Rattle.model.specs.Values.{is_plain, within, no_type}
use Rattle.model.specs.Expressions.{Exp, Read, bad, got, head_size, type_at, build, expression, Scope, judged, type_of, expression_limits}
use Rattle.expressions.specs.Reading.{shallow, fits_at, limits_read}
use Rattle.expressions.proofs.Leaves.{Leaf, leaf_there, leaf_read, leaf_two}
use Rattle.expressions.proofs.Shapes.{build-literal, build-matched, build-variable}
use Rattle.types.specs.Scopes.{scope_in, given, by_rule, typed_at}
use Rattle.types.proofs.Judging.{Judges, placed_by, type_drop}

pub value_drop : (at : ℕ) (s : List ℕ) → value_at (drop at s) 3 ≡ value_at s (at + 3)
unfolding value_at four_at
value_drop at s =
    let a : at + 4 ≡ at + 3 + 1 = omega arith in
    let b : at + 5 ≡ at + 3 + 2 = omega arith in
    let c : at + 6 ≡ at + 3 + 3 = omega arith in
    rw (get_or-drop at s 3 0, get_or-drop at s 4 0, get_or-drop at s 5 0, get_or-drop at s 6 0, a, b, c)

-- ── the table ────────────────────────────────────────────────────────────────────────────────

pub ins_is : (ts : List ℕ) (i : ℕ) → get_or (scope_in ts).ins i no_type ≡ cond (ltb i 4) (type_at ts (0 + 2 * i)) no_type
unfolding scope_in
ins_is ts zero = refl
ins_is ts (suc zero) = refl
ins_is ts (suc (suc zero)) = refl
ins_is ts (suc (suc (suc zero))) = refl
ins_is ts (suc (suc (suc (suc i)))) = rw (le-ltb (suc (suc (suc (suc i)))) 4 (omega arith))

pub vars_is : (ts : List ℕ) (i : ℕ) → get_or (scope_in ts).vars i no_type ≡ cond (ltb i 4) (type_at ts (8 + 2 * i)) no_type
unfolding scope_in
vars_is ts zero = refl
vars_is ts (suc zero) = refl
vars_is ts (suc (suc zero)) = refl
vars_is ts (suc (suc (suc zero))) = refl
vars_is ts (suc (suc (suc (suc i)))) = rw (le-ltb (suc (suc (suc (suc i)))) 4 (omega arith))

-- the type that a table names at i, from its inputs (0) or its variables (8) on
abbrev pub named_in : List ℕ → ℕ → ℕ → Ty
named_in ts from i = cond (ltb i 4) (type_at ts (from + 2 * i)) no_type

-- ── a leaf ───────────────────────────────────────────────────────────────────────────────────

module _ (x : Leaf) where
  -- what stands there, and its type
  abbrev pub leaf : Exp
  leaf = build (drop x.at x.s) []

  pub leaf_literal : (sc : Scope) {t : Ty} {z : ℤ} → x.c ≡ 0 → t ≡ type_at x.s (x.at + 1) → z ≡ value_at x.s (x.at + 3) → type_of sc leaf ≡ judged (is_plain t && within t z) t
  unfolding type_of
  leaf_literal sc e q v = rw (build-literal (drop x.at x.s) x.c (leaf_there x) [] e, type_drop x.at x.s 1, value_drop x.at x.s, v, q)

  module _ (ts : List ℕ) {t : Ty} {i : ℕ} (n : i ≡ get_or x.s (x.at + 1) 0) where
    pub leaf_matched : x.c ≡ 1 → t ≡ named_in ts 0 i → type_of (scope_in ts) leaf ≡ judged (is_plain t) t
    unfolding type_of
    leaf_matched e q = rw (build-matched (drop x.at x.s) x.c (leaf_there x) [] e, get_or-drop x.at x.s 1 0, sym n, ins_is ts i, q)

    pub leaf_variable : x.c ≡ 2 → t ≡ named_in ts 8 i → type_of (scope_in ts) leaf ≡ judged (is_plain t) t
    unfolding type_of
    leaf_variable e q = rw (build-variable (drop x.at x.s) x.c (leaf_there x) [] e, get_or-drop x.at x.s 1 0, sym n, vars_is ts i, q)

  leaf_judges : (ts : List ℕ) → Judges (type_of (scope_in ts) leaf)
  leaf_judges ts = go (eqb x.c 0) (eqb x.c 1) refl refl
    where
      go : (a b : Bool) → eqb x.c 0 ≡ a → eqb x.c 1 ≡ b → Judges (type_of (scope_in ts) leaf)
      go true b e f = (_, _, leaf_literal (scope_in ts) (eqb-true x.c 0 e) refl refl)
      go false true e f = (_, _, leaf_matched ts refl (eqb-true x.c 1 f) refl)
      go false false e f = (_, _, leaf_variable ts refl (leaf_two x (eqb-false x.c 0 e) (eqb-false x.c 1 f)) refl)

  -- the answer of a leaf
  pub leaf_answer : (ts : List ℕ) → by_rule x.at (x.at + head_size x.c) (given (type_of (scope_in ts) leaf)) ≡ typed_at (scope_in ts) x.at (expression (drop x.at x.s))
  unfolding typed_at
  leaf_answer ts =
      let q : x.at + head_size x.c - x.at ≡ head_size x.c + 0 = omega arith in
      placed_by x.at (x.at + head_size x.c) (omega arith) (leaf_judges ts) ∙ rw (q, leaf_read x)

-- the limits of the whole
pub limits_fit : (r : Read Exp) → limits_read r ≡ true → fits_at 16 r ≡ true
unfolding fits_at limits_read shallow expression_limits
limits_fit bad e = e
limits_fit (got e n) f = f
