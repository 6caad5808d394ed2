-- The table of types that an expression may name, and what the type check answers.
-- Assumes nothing.
use Rattle.std.specs.Prelude.{ℕ, ◌+◌, List, [], ◌∷◌, Option, Some, None, Result, Ok, Err}
use Rattle.model.specs.declared.Ty.{Ty}
use Rattle.model.specs.Expressions.{Exp, Read, bad, got, type_at, Scope, Typed, typed, ill, type_of}
use Rattle.types.specs.declared.Typed.{Typed as TypedTo}

-- kind and p of input i at 2i, of variable j at 8 + 2j
unfoldable pub scope_in : List ℕ → Scope
scope_in ts = record { ins = type_at ts 0 ∷ type_at ts 2 ∷ type_at ts 4 ∷ type_at ts 6 ∷ []; vars = type_at ts 8 ∷ type_at ts 10 ∷ type_at ts 12 ∷ type_at ts 14 ∷ [] }

unfoldable pub given : Typed → Option Ty  -- the type that a rule gives, if it holds
given (typed t) = Some t
given (ill k) = None

-- that type and the offset after the expression, or the expression's own offset
unfoldable pub by_rule : ℕ → ℕ → Option Ty → Result TypedTo ℕ
by_rule at next (Some t) = Ok (record { ty = t; next = next })
by_rule at next None = Err at

-- the type of an expression of n bytes at an offset, with the offset after it; or the offset of what fails
unfoldable pub placed : ℕ → ℕ → Typed → Result TypedTo ℕ
placed at n (typed t) = Ok (record { ty = t; next = at + n })
placed at n (ill k) = Err (at + k)

unfoldable pub typed_at : Scope → ℕ → Read Exp → Result TypedTo ℕ
typed_at sc at bad = Err at
typed_at sc at (got e n) = placed at n (type_of sc e)
