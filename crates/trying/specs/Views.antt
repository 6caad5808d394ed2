-- A rule against what its box sees: of each input the oldest token's tag and value, of each variable its value, the outputs that are full.
-- Assumes nothing.
use Rattle.std.specs.Prelude.{ℕ, ◌+◌, ◌-◌, Bool, true, cond, ◌&&◌, List, [], ◌∷◌, ◌++◌, ltb, ℤ, pos, get_or, length, Result, Ok, Err, Option, Some, None}
use Rattle.model.specs.declared.Ty.{Ty}
use Rattle.model.specs.declared.Token.{Token}
use Rattle.model.specs.declared.RuleId.{RuleId}
use Rattle.model.specs.declared.Fault.{Fault}
use Rattle.model.specs.Expressions.{Env, value_of}
use Rattle.model.specs.Rules.{Pattern, Rule, matched_types}
use Rattle.model.specs.Cycles.{Mark, quiet, fires, faulty, matches, attempt, guarded}
use Rattle.evaluation.specs.Envs.{env_in}
use Rattle.matching.specs.Outs.{open_from}

-- the token that pattern j is held against: the oldest of input j, then the variables as plain tokens
unfoldable pub token_of : ℕ → List ℕ → List ℤ → ℕ → Token
token_of ins heads vals j = cond (ltb j ins) (record { tag = get_or heads j 0; value = get_or vals j (pos 0) }) (record { tag = 0; value = get_or vals (4 + (j - ins)) (pos 0) })

-- every pattern from number j on is ready
unfoldable pub ready_from : (ℕ → Token) → ℕ → List Pattern → Bool
ready_from f j [] = true
ready_from f j (p ∷ ps) = matches p (f j) && ready_from f (j + 1) ps

-- what the expressions of a rule are worked out from, in a box whose inputs and variables have these types
unfoldable pub view_env : List Ty → List Ty → List ℤ → Rule → Env
view_env is vs vals r = record { scope = record { ins = matched_types is r.ins; vars = vs }; ins = (env_in vals []).ins; vars = (env_in vals []).vars }

-- a rule whose patterns are ready: no full output is written, then the guard, then the actions
unfoldable pub judge_of : Env → List ℕ → Rule → ℕ → Mark
judge_of en full r k = let m = guarded en r k (value_of en r.guard) in attempt (open_from full 0 r.outs) m

-- rule k: every pattern ready, and its judgement
unfoldable pub try_on : List Ty → List Ty → List ℕ → List ℕ → List ℤ → Rule → ℕ → Mark
try_on is vs heads full vals r k = let m = judge_of (view_env is vs vals r) full r k in attempt (ready_from (token_of (length r.ins) heads vals) 0 (r.ins ++ r.vars)) m

unfoldable pub mark_as : Mark → Result (Option RuleId) Fault  -- as the code says it
mark_as quiet = Ok None
mark_as (fires k) = Ok (Some (record { 0 = k }))
mark_as (faulty x) = Err x
