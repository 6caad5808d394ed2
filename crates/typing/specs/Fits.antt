-- What fits in a rule's body, as it is read.
-- Assumes nothing.
use Rattle.std.specs.Prelude.{ℕ, ◌-◌, ◌*◌, ◌<◌, ◌≡◌, true, false, cond, List, [], leb, get_or, drop, Result, Ok, Err, ⊤}
use Rattle.model.specs.declared.Ty.{Ty}
use Rattle.model.specs.Values.{no_type, in_precision}
use Rattle.model.specs.Expressions.{Exp, Read, bad, got, expression, nothing_read, type_at, Scope, type_of}
use Rattle.model.specs.Rules.{Pattern, matched_types, Action, send, bare_action, sent_tag, holds_expression, Fit, fits, fails, also, guard_fits, actions_fit}
use Rattle.expressions.specs.Reading.{limits_read}
use Rattle.shapes.specs.Shapes.{types_in}
use Rattle.shapes.specs.declared.Arity.{Arity}
use Rattle.rules.specs.declared.Parts.{Parts}
use Rattle.rules.specs.Bodies.{actions_from, limits_of}

unfoldable pub fitting_of : Fit → Result ⊤ ℕ  -- as the code says it: where it fails
fitting_of fits = Ok tt
fitting_of (fails k) = Err k

unfoldable pub list_read : {A : Type 0} → Read (List A) → List A  -- what was read
list_read bad = []
list_read (got xs n) = xs

unfoldable pub exp_read : Read Exp → Exp  -- the expression that was read
exp_read bad = nothing_read
exp_read (got e n) = e

-- the action at the start of a stretch
unfoldable pub action_at : List ℕ → Action
action_at s = let c = get_or s 0 0 in cond (holds_expression c) (send (sent_tag c) (exp_read (expression (drop 1 s)))) (bare_action c)

unfoldable pub scope_read : List Ty → List Ty → Read (List Pattern) → Scope  -- what a rule's expressions may name
scope_read ins vars r = record { ins = matched_types ins (list_read r); vars = vars }

-- the tag of a pattern code other than 0: plain, a mark, data
unfoldable pub tag_of : ℕ → ℕ
tag_of c = cond (leb c 2) 0 (cond (leb c 5) (c - 2) 3)

-- the first n types have a precision of 1 to 30
pub record Precise (t : List ℕ) (n : ℕ) : Type 0 where
  pub each : (k : ℕ) → k < n → in_precision (type_at t (2 * k)) ≡ true

-- two scopes give the same type for each number
pub record Agree (s t : Scope) : Type 0 where
  pub ins : (i : ℕ) → get_or s.ins i no_type ≡ get_or t.ins i no_type
  pub vars : (i : ℕ) → get_or s.vars i no_type ≡ get_or t.vars i no_type

-- the guard and the actions of a body fit
unfoldable pub expressions_fit : Scope → Arity → Parts → List ℕ → List ℕ → List ℕ → Fit
expressions_fit sc a p outs vars b =
    also (guard_fits p.guard (type_of sc (exp_read (expression (drop p.guard b)))))
    (also (actions_fit sc p.outs (types_in outs a.outs) (list_read (actions_from false a.outs p.outs b)))
    (actions_fit sc p.sets (types_in vars a.vars) (list_read (actions_from true a.vars p.sets b))))

-- the expressions of a body keep the limits
pub record Kept (a : Arity) (p : Parts) (b : List ℕ) : Type 0 where
  pub guard : limits_read (expression (drop p.guard b)) ≡ true
  pub outs : limits_of (actions_from false a.outs p.outs b) ≡ true
  pub sets : limits_of (actions_from true a.vars p.sets b) ≡ true
