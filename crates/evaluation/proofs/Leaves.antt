-- Literals and references: their values; and the offset after an expression.
-- Assumes nothing.
use mathlib.Core.Path.{◌≡◌, refl, sym, ap, ◌∙◌}
use mathlib.Core.Bool.{cond}
use mathlib.Core.List.{List, []}
use Prim.Native.Nat.{ℕ, zero, suc, ◌+◌}
use native.Mathlib.Omega.{arith}
use lib.Dec.{ltb}
use lib.IntN.{ℤ, pos}
use lib.ListN.{get_or, drop}
use lib.Seq.{get_or-drop}
use borrow.Author.Tests.{le-ltb}
use Rattle.model.specs.declared.Ty.{Ty}
use Rattle.std.specs.Prelude.{Result, Ok}
use Rattle.model.specs.declared.Fault.{Fault}
use Rattle.model.specs.Values.{gives}
use Rattle.model.specs.Bytes.{value_at}
use Rattle.model.specs.Expressions.{head_size, type_at, build, expression, value_of}
use Rattle.expressions.proofs.Leaves.{Leaf, leaf_there, leaf_read, leaf_two}
use Rattle.expressions.proofs.Shapes.{build-literal, build-matched, build-variable}
use Rattle.types.proofs.Judging.{type_drop}
use Rattle.types.proofs.Leaves.{value_drop, ins_is, vars_is, named_in}
use Rattle.evaluation.specs.declared.Valued.{Valued}
use Rattle.evaluation.specs.Envs.{env_in, outcome_at, valued_at}

ins_kept : (vs : List ℤ) (ts : List ℕ) (i : ℕ) → get_or (env_in vs ts).ins i (pos 0) ≡ cond (ltb i 4) (get_or vs (0 + i) (pos 0)) (pos 0)
unfolding env_in
ins_kept vs ts zero = refl
ins_kept vs ts (suc zero) = refl
ins_kept vs ts (suc (suc zero)) = refl
ins_kept vs ts (suc (suc (suc zero))) = refl
ins_kept vs ts (suc (suc (suc (suc i)))) = rw (le-ltb (suc (suc (suc (suc i)))) 4 (omega arith))

vars_kept : (vs : List ℤ) (ts : List ℕ) (i : ℕ) → get_or (env_in vs ts).vars i (pos 0) ≡ cond (ltb i 4) (get_or vs (4 + i) (pos 0)) (pos 0)
unfolding env_in
vars_kept vs ts zero = refl
vars_kept vs ts (suc zero) = refl
vars_kept vs ts (suc (suc zero)) = refl
vars_kept vs ts (suc (suc (suc zero))) = refl
vars_kept vs ts (suc (suc (suc (suc i)))) = rw (le-ltb (suc (suc (suc (suc i)))) 4 (omega arith))

-- the value at i, from the inputs (0) or the variables (4) on
abbrev pub kept_in : List ℤ → ℕ → ℕ → ℤ
kept_in vs from i = cond (ltb i 4) (get_or vs (from + i) (pos 0)) (pos 0)

same_value : {t u : Ty} {y z : ℤ} → t ≡ u → y ≡ z → gives t y ≡ gives u z
same_value e f = cc

abbrev value_there : Leaf → List ℤ → List ℕ → Result Valued Fault
value_there x vs ts = valued_at (env_in vs ts) x.at (expression (drop x.at x.s))

-- what a leaf answers: a value with its type, and the offset after it
abbrev answer : Ty → ℤ → ℕ → Result Valued Fault
answer t z n = Ok (record { ty = t; value = z; next = n })

-- a leaf, over these values; y is a signed local that holds its value
module _ (x : Leaf) (vs : List ℤ) (ts : List ℕ) {t : Ty} {y z : ℤ} (s : y ≡ z) where
  leaf_answer : (n : ℕ) → gives t z ≡ value_of (env_in vs ts) (build (drop x.at x.s) []) → head_size x.c ≡ n → answer t y (x.at + n) ≡ value_there x vs ts
  unfolding valued_at outcome_at
  leaf_answer n e q =
      let w : x.at + n ≡ x.at + (head_size x.c + 0) = omega arith in
      rw (leaf_read x, s) (ap (answer t z) w ∙ ap (outcome_at (x.at + (head_size x.c + 0))) e)

  pub leaf_literal : x.c ≡ 0 → t ≡ type_at x.s (x.at + 1) → z ≡ value_at x.s (x.at + 3) → answer t y (x.at + 7) ≡ value_there x vs ts
  unfolding value_of head_size
  leaf_literal e q v =
      leaf_answer 7 (rw (build-literal (drop x.at x.s) x.c (leaf_there x) [] e, type_drop x.at x.s 1, value_drop x.at x.s) (same_value q v)) (rw e)

  module _ {i : ℕ} (n : i ≡ get_or x.s (x.at + 1) 0) where
    pub leaf_matched : x.c ≡ 1 → t ≡ named_in ts 0 i → z ≡ kept_in vs 0 i → answer t y (x.at + 2) ≡ value_there x vs ts
    unfolding value_of head_size env_in
    leaf_matched e q k =
        leaf_answer 2 (rw (build-matched (drop x.at x.s) x.c (leaf_there x) [] e, get_or-drop x.at x.s 1 0, sym n) (same_value (q ∙ sym (ins_is ts i)) (k ∙ sym (ins_kept vs ts i)))) (rw e)

    pub leaf_variable : (x.c ≡ 0 → ⊥) → (x.c ≡ 1 → ⊥) → t ≡ named_in ts 8 i → z ≡ kept_in vs 4 i → answer t y (x.at + 2) ≡ value_there x vs ts
    unfolding value_of head_size env_in
    leaf_variable f g q k =
        let e = leaf_two x f g in
        leaf_answer 2 (rw (build-variable (drop x.at x.s) x.c (leaf_there x) [] e, get_or-drop x.at x.s 1 0, sym n) (same_value (q ∙ sym (vars_is ts i)) (k ∙ sym (vars_kept vs ts i)))) (rw e)
