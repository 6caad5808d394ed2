-- The body of a rule: a pattern per input, a pattern per variable, a guard, an action per output, an action per variable.
-- Assumes nothing.
use Rattle.std.specs.Prelude.{ℕ, ◌+◌, ◌-◌, Bool, true, false, not, cond, ◌&&◌, ◌||◌, List, [], ◌∷◌, leb, ltb, eqb, get_or, drop, length, ℤ}
use Rattle.model.specs.declared.Ty.{Ty}
use Rattle.model.specs.Bytes.{value_at}
use Rattle.model.specs.Values.{no_type, is_bool, is_dc, carried, same_type, within}
use Rattle.model.specs.Expressions.{Exp, Read, bad, got, after, read_many, provided, expression, nothing_read, size_of, expression_limits, Scope, Typed, typed, ill, type_of}

-- of an input or a variable: ignored; any token of a tag; one token. A variable is a plain token
pub data Pattern : Type 0 where
  ignore : Pattern
  any : ℕ → Pattern
  only : ℕ → ℤ → Pattern

-- for an output or a variable: nothing, a variable kept; a bare mark; an expression, sent under a tag
pub data Action : Type 0 where
  nothing : Action
  bare : ℕ → Action
  send : ℕ → Exp → Action

-- input patterns, variable patterns, guard, output actions, variable actions
pub record Rule : Type 0 where
  pub ins : List Pattern
  pub vars : List Pattern
  pub guard : Exp
  pub outs : List Action
  pub sets : List Action

-- ── form ─────────────────────────────────────────────────────────────────────────────────────

-- 0 ignore, 1 any, 2 constant, 3 '<, 4 '>, 5 any data, 6 data constant
unfoldable pub pattern_of : ℕ → ℤ → Pattern
pattern_of c z =
    cond (eqb c 0) ignore
    (cond (eqb c 1) (any 0)
    (cond (eqb c 2) (only 0 z)
    (cond (leb c 5) (any (c - 2))
    (only 3 z))))

unfoldable pub pattern_size : ℕ → ℕ  -- a constant takes four bytes more
pattern_size c = cond (eqb c 2 || eqb c 6) 5 1

unfoldable pub input_code : ℕ → Bool  -- 0 to 6
input_code c = leb c 6

unfoldable pub variable_code : ℕ → Bool  -- 0 and 2
variable_code c = eqb c 0 || eqb c 2

unfoldable pub read_pattern : (ℕ → Bool) → List ℕ → Read Pattern  -- a known code, and its bytes
read_pattern known s =
    let c = get_or s 0 0 in
    provided (ltb 0 (length s) && known c && leb (pattern_size c) (length s)) (got (pattern_of c (value_at s 1)) (pattern_size c))

-- 0 nothing, 1 expression, 3 '<, 4 '>, 5 data expression
unfoldable pub output_action : ℕ → Bool
output_action c = leb c 5 && not (eqb c 2)

-- 0 keep, 1 expression
unfoldable pub variable_action : ℕ → Bool
variable_action c = leb c 1

-- the action of a code without an expression
unfoldable pub bare_action : ℕ → Action
bare_action c = cond (eqb c 0) nothing (bare (c - 2))

-- codes 1 and 5 hold an expression
unfoldable pub holds_expression : ℕ → Bool
holds_expression c = eqb c 1 || eqb c 5

unfoldable pub sent_tag : ℕ → ℕ  -- data, or plain
sent_tag c = cond (eqb c 5) 3 0

unfoldable pub read_action : (ℕ → Bool) → List ℕ → Read Action  -- a known code, and its expression
read_action known s =
    let c = get_or s 0 0 in
    let sent = after (expression (drop 1 s)) (λ e n. got (send (sent_tag c) e) (1 + n)) in
    provided (ltb 0 (length s) && known c) (cond (holds_expression c) sent (got (bare_action c) 1))

-- the five parts, each from where it begins
unfoldable pub read_rule : ℕ → ℕ → ℕ → List ℕ → Read Rule
read_rule i o v b =
    after (read_many (read_pattern input_code) i b)
    (λ ins k. after (read_many (read_pattern variable_code) v (drop k b))
    (λ vars l. after (expression (drop (k + l) b))
    (λ guard m. after (read_many (read_action output_action) o (drop (k + l + m) b))
    (λ outs n. after (read_many (read_action variable_action) v (drop (k + l + m + n) b))
    (λ sets q. got (record { ins = ins; vars = vars; guard = guard; outs = outs; sets = sets }) (k + l + m + n + q))))))

unfoldable pub no_rule : Rule  -- for a number that is not there
no_rule = record { ins = []; vars = []; guard = nothing_read; outs = []; sets = [] }

-- the rule that was read
unfoldable pub rule_read : Read Rule → Rule
rule_read bad = no_rule
rule_read (got r n) = r

-- it is all of the body
unfoldable pub is_whole : Read Rule → List ℕ → Bool
is_whole bad b = false
is_whole (got r n) b = eqb n (length b)

-- ── limits ───────────────────────────────────────────────────────────────────────────────────

unfoldable pub action_limits : List Action → Bool  -- those of their expressions
action_limits [] = true
action_limits (nothing ∷ as') = action_limits as'
action_limits (bare t ∷ as') = action_limits as'
action_limits (send t e ∷ as') = expression_limits e && action_limits as'

-- ── types ────────────────────────────────────────────────────────────────────────────────────

-- the types of a box's input wires, output wires and variables
pub record Shape : Type 0 where
  pub ins : List Ty
  pub outs : List Ty
  pub vars : List Ty

-- all fits, or the offset of what doesn't
pub data Fit : Type 0 where
  fits : Fit
  fails : ℕ → Fit

-- this, and if it fits what follows
unfoldable pub also : Fit → Fit → Fit
also fits f = f
also (fails k) f = fails k

unfoldable pub fit_if : Bool → ℕ → Fit  -- fits, or fails there
fit_if true at = fits
fit_if false at = fails at

-- plain wires carry tag 0, dc wires the others
unfoldable pub tag_fits : Ty → ℕ → Bool
tag_fits t tag = cond (is_dc t) (leb 1 tag) (eqb tag 0)

unfoldable pub pattern_fits : Ty → Pattern → Bool  -- its tag and its constant
pattern_fits t ignore = true
pattern_fits t (any tag) = tag_fits t tag
pattern_fits t (only tag z) = tag_fits t tag && within (carried t) z

-- the bytes of a pattern that was read
unfoldable pub size_of_pattern : Pattern → ℕ
size_of_pattern ignore = 1
size_of_pattern (any tag) = 1
size_of_pattern (only tag z) = 5

unfoldable pub patterns_size : List Pattern → ℕ  -- their bytes
patterns_size [] = 0
patterns_size (x ∷ xs) = size_of_pattern x + patterns_size xs

unfoldable pub patterns_fit : ℕ → List Ty → List Pattern → Fit  -- from the left
patterns_fit at ts [] = fits
patterns_fit at [] (x ∷ xs) = fits
patterns_fit at (t ∷ ts) (x ∷ xs) = also (fit_if (pattern_fits t x) at) (patterns_fit (at + size_of_pattern x) ts xs)

-- the type that a reference to this input has: its pattern must be 1 or 5
unfoldable pub matched_type : Ty → Pattern → Ty
matched_type t ignore = no_type
matched_type t (any tag) = cond (eqb tag 0 || eqb tag 3) (carried t) no_type
matched_type t (only tag z) = no_type

unfoldable pub matched_types : List Ty → List Pattern → List Ty  -- for each input
matched_types ts [] = []
matched_types [] (x ∷ xs) = []
matched_types (t ∷ ts) (x ∷ xs) = matched_type t x ∷ matched_types ts xs

unfoldable pub scope_of : Shape → Rule → Scope  -- what a rule's expressions may name
scope_of sh r = record { ins = matched_types sh.ins r.ins; vars = sh.vars }

-- an expression of type t; `own` is the offset of what holds it
unfoldable pub has_type : ℕ → ℕ → Ty → Typed → Fit
has_type own at t (typed u) = fit_if (same_type u t) own
has_type own at t (ill k) = fails (at + k)

-- a guard is bool
unfoldable pub guard_fits : ℕ → Typed → Fit
guard_fits at (typed t) = fit_if (is_bool t) at
guard_fits at (ill k) = fails (at + k)

-- an action has the type of what it fills
unfoldable pub action_fits : Scope → ℕ → Ty → Action → Fit
action_fits sc at t nothing = fits
action_fits sc at t (bare tag) = fit_if (tag_fits t tag) at
action_fits sc at t (send tag e) = also (has_type at (at + 1) (carried t) (type_of sc e)) (fit_if (tag_fits t tag) at)

unfoldable pub size_of_action : Action → ℕ  -- its bytes
size_of_action nothing = 1
size_of_action (bare tag) = 1
size_of_action (send tag e) = 1 + size_of e

unfoldable pub actions_size : List Action → ℕ  -- their bytes
actions_size [] = 0
actions_size (x ∷ xs) = size_of_action x + actions_size xs

unfoldable pub actions_fit : Scope → ℕ → List Ty → List Action → Fit  -- from the left
actions_fit sc at ts [] = fits
actions_fit sc at [] (x ∷ xs) = fits
actions_fit sc at (t ∷ ts) (x ∷ xs) = also (action_fits sc at t x) (actions_fit sc (at + size_of_action x) ts xs)

-- the parts of a rule from the left
unfoldable pub rule_fits : Shape → Rule → Fit
rule_fits sh r =
    let sc = scope_of sh r in
    let k = patterns_size r.ins in
    let l = k + patterns_size r.vars in
    let m = l + size_of r.guard in
    also (patterns_fit 0 sh.ins r.ins)
    (also (patterns_fit k sh.vars r.vars)
    (also (guard_fits l (type_of sc r.guard))
    (also (actions_fit sc m sh.outs r.outs)
    (actions_fit sc (m + actions_size r.outs) sh.vars r.sets))))

unfoldable pub is_fit : Fit → Bool  -- nothing fails
is_fit fits = true
is_fit (fails k) = false
