-- A rule's body read part by part: where each part ends, and what all of them come to.
-- Assumes nothing.
use Rattle.std.specs.Prelude.{ℕ, zero, suc, ◌+◌, ◌≡◌, Bool, true, false, cond, List, Option, Some, None, option_and_then, leb, ltb, eqb, get_or, drop, length}
use Rattle.model.specs.Expressions.{Read, bad, got, read_many, expression}
use Rattle.model.specs.Rules.{Pattern, Action, input_code, variable_code, output_action, variable_action, read_pattern, read_action, holds_expression, action_limits}
use Rattle.expressions.specs.Reading.{end_from, limits_read}
use Rattle.shapes.specs.declared.Arity.{Arity}
use Rattle.rules.specs.declared.Parts.{Parts}

-- the codes of a variable's pattern, or of an input's
unfoldable pub pattern_codes : Bool → ℕ → Bool
pattern_codes true = variable_code
pattern_codes false = input_code

-- the codes of a variable's action, or of an output's
unfoldable pub action_codes : Bool → ℕ → Bool
action_codes true = variable_action
action_codes false = output_action

unfoldable pub any_code : ℕ → Bool  -- every code: of what is known to be a pattern or an action
any_code c = true

unfoldable pub patterns_from : Bool → ℕ → ℕ → List ℕ → Read (List Pattern)  -- n patterns from an offset on
patterns_from v n at b = read_many (read_pattern (pattern_codes v)) n (drop at b)

unfoldable pub actions_from : Bool → ℕ → ℕ → List ℕ → Read (List Action)  -- n actions from an offset on
actions_from v n at b = read_many (read_action (action_codes v)) n (drop at b)

-- the expression of the action at the start of a stretch, if it holds one, keeps the limits
unfoldable pub sent_limits : List ℕ → Bool
sent_limits s = cond (holds_expression (get_or s 0 0)) (limits_read (expression (drop 1 s))) true

unfoldable pub limits_of : Read (List Action) → Bool  -- they are there, and their expressions keep the limits
limits_of bad = false
limits_of (got xs n) = action_limits xs

abbrev pub next : Option ℕ → (ℕ → Option Parts) → Option Parts  -- go on from where a part ends
next end f = option_and_then f end

-- where the parts after the input patterns begin, if they take the whole body
unfoldable pub layout_of : Arity → List ℕ → Option Parts
layout_of a b =
    next (end_from 0 (patterns_from false a.ins 0 b))
    (λ k. next (end_from k (patterns_from true a.vars k b))
    (λ l. next (end_from l (expression (drop l b)))
    (λ m. next (end_from m (actions_from false a.outs m b))
    (λ n. next (end_from n (actions_from true a.vars n b))
    (λ q. cond (eqb q (length b)) (Some (record { vars = k; guard = l; outs = m; sets = n })) None)))))

pub record Parted (a : Arity) (b : List ℕ) : Type 0 where  -- a body with its parts
  pub parts : Parts
  pub whole : layout_of a b ≡ Some parts

unfoldable pub outs_at : Option Parts → ℕ  -- where its output actions begin
outs_at None = 0
outs_at (Some p) = p.outs

-- where part k of a body ends, from its offset: input patterns, variable patterns, the guard, output actions, variable actions
unfoldable pub part_end : Arity → ℕ → ℕ → List ℕ → Option ℕ
part_end a k at b =
    let guard = a.ins + a.vars in
    cond (ltb k guard) (end_from at (read_pattern (pattern_codes (leb a.ins k)) (drop at b)))
    (cond (eqb k guard) (end_from at (expression (drop at b)))
    (end_from at (read_action (action_codes (ltb (guard + a.outs) k)) (drop at b))))

unfoldable pub stop_or : Option ℕ → ℕ → (ℕ → ℕ) → ℕ  -- stop where a part cannot be read, or go on from its end
stop_or None at f = at
stop_or (Some end) at f = f end

unfoldable pub read_from : Arity → List ℕ → ℕ → ℕ → ℕ → ℕ  -- how far n parts from part k on can be read
read_from a b zero k at = at
read_from a b (suc n) k at = stop_or (part_end a k at b) at (λ end. read_from a b n (suc k) end)

-- how far a body can be read: the offset of the part that cannot be, or of the first byte after all of them
unfoldable pub read_to : Arity → List ℕ → ℕ
read_to a b = read_from a b (a.ins + a.vars + 1 + a.outs + a.vars) 0 0
