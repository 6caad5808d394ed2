-- The values that an expression is worked out from, and what the evaluator answers.
-- Assumes nothing.
use Rattle.std.specs.Prelude.{ℕ, ◌+◌, ◌^◌, ◌≤◌, ◌≡◌, Bool, true, false, List, [], ◌∷◌, ℤ, pos, get_or, Result, Ok, Err}
use Rattle.std.specs.Int.Signed.{mag}
use Rattle.model.specs.declared.Fault.{Fault}
use Rattle.model.specs.declared.Fault.TheVariants.{ZeroDivisor}
use Rattle.model.specs.Values.{Outcome, is_plain, no_type}
use Rattle.model.specs.Expressions.{Exp, Read, bad, got, Env, value_of}
use Rattle.types.specs.declared.Typed.{Typed}
use Rattle.types.specs.Scopes.{scope_in}
use Rattle.evaluation.specs.declared.Valued.{Valued}

-- the matched value of input i at i, of variable j at 4 + j; their types in the table
unfoldable pub env_in : List ℤ → List ℕ → Env
env_in vs ts = record { scope = scope_in ts; ins = get_or vs 0 (pos 0) ∷ get_or vs 1 (pos 0) ∷ get_or vs 2 (pos 0) ∷ get_or vs 3 (pos 0) ∷ []; vars = get_or vs 4 (pos 0) ∷ get_or vs 5 (pos 0) ∷ get_or vs 6 (pos 0) ∷ get_or vs 7 (pos 0) ∷ [] }

-- a type that may be named has precision 1 to 30, and the values are of 32 bits
pub record EnvFits (vs : List ℤ) (ts : List ℕ) : Type 0 where
  pub ins : (i : ℕ) → is_plain (get_or (scope_in ts).ins i no_type) ≡ true → (1 ≤ (get_or (scope_in ts).ins i no_type).p) × ((get_or (scope_in ts).ins i no_type).p ≤ 30)
  pub vars : (i : ℕ) → is_plain (get_or (scope_in ts).vars i no_type) ≡ true → (1 ≤ (get_or (scope_in ts).vars i no_type).p) × ((get_or (scope_in ts).vars i no_type).p ≤ 30)
  pub small : (i : ℕ) → mag (get_or vs i (pos 0)) ≤ 2 ^ 31

unfoldable pub outcome_at : ℕ → Outcome → Result Valued Fault  -- with the offset after the expression
outcome_at next (Ok v) = Ok (record { ty = v.ty; value = v.value; next = next })
outcome_at next (Err x) = Err x

-- where no expression is read, which the code rules out, no value
unfoldable pub valued_at : Env → ℕ → Read Exp → Result Valued Fault
valued_at en at bad = Err ZeroDivisor
valued_at en at (got e n) = outcome_at (at + n) (value_of en e)

unfoldable pub is_typed : Result Typed ℕ → Bool  -- a type, no fault
is_typed (Ok t) = true
is_typed (Err k) = false
