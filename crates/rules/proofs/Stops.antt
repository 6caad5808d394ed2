-- How far a body can be read, part by part.
-- Assumes nothing.
use mathlib.Core.Path.{◌≡◌, ap}
use mathlib.Core.List.{List}
use Prim.Native.Nat.{ℕ, suc, ◌+◌, ◌-◌, ◌≤◌, ◌<◌}
use native.Mathlib.Omega.{arith}
use lib.Dec.{leb, ltb}
use lib.ListN.{drop}
use borrow.Author.Tests.{lt-ltb, le-ltb, eq-eqb, ne_eqb}
use Rattle.std.specs.Prelude.{Option, Some, None}
use Rattle.model.specs.Expressions.{expression}
use Rattle.model.specs.Rules.{read_pattern, read_action}
use Rattle.expressions.specs.Reading.{end_from}
use Rattle.shapes.specs.declared.Arity.{Arity}
use Rattle.rules.specs.Bodies.{pattern_codes, action_codes, part_end, stop_or, read_from, read_to}

module _ (a : Arity) (b : List ℕ) (k at : ℕ) {r : Option ℕ} where
  pub part_pattern : k < a.ins + a.vars → r ≡ end_from at (read_pattern (pattern_codes (leb a.ins k)) (drop at b)) → r ≡ part_end a k at b
  unfolding part_end
  part_pattern h e = rw (lt-ltb k (a.ins + a.vars) h) e

  pub part_guard : k ≡ a.ins + a.vars → r ≡ end_from at (expression (drop at b)) → r ≡ part_end a k at b
  unfolding part_end
  part_guard h e = rw (le-ltb k (a.ins + a.vars) (omega arith), eq-eqb k (a.ins + a.vars) h) e

  pub part_action : a.ins + a.vars ≤ k → (k ≡ a.ins + a.vars → ⊥) → r ≡ end_from at (read_action (action_codes (ltb (a.ins + a.vars + a.outs) k)) (drop at b)) → r ≡ part_end a k at b
  unfolding part_end
  part_action h n e = rw (le-ltb k (a.ins + a.vars) h, ne_eqb k (a.ins + a.vars) n) e

module _ (a : Arity) (b : List ℕ) (n k at : ℕ) where
  -- a part that cannot be read
  pub read_stop : k < n → part_end a k at b ≡ None → read_from a b (n - k) k at ≡ at
  unfolding read_from stop_or
  read_stop h e = let q : n - k ≡ suc (n - (k + 1)) = omega arith in rw (q, e)

  -- a part that ends
  pub read_on : (end : ℕ) → k < n → part_end a k at b ≡ Some end → read_from a b (n - k) k at ≡ read_from a b (n - (k + 1)) (k + 1) end
  unfolding read_from stop_or
  read_on end h e =
      let q : n - k ≡ suc (n - (k + 1)) = omega arith in
      let s : suc k ≡ k + 1 = omega arith in
      rw (q, e, s)

  -- all of them
  pub read_all : n ≤ k → read_from a b (n - k) k at ≡ at
  unfolding read_from
  read_all h = let q : n - k ≡ 0 = omega arith in rw q

-- none yet
pub read_start : (a : Arity) (b : List ℕ) → read_from a b (a.ins + a.vars + 1 + a.outs + a.vars - 0) 0 0 ≡ read_to a b
unfolding read_to
read_start a b = ap (λ (m : ℕ). read_from a b m 0 0) (omega arith)
