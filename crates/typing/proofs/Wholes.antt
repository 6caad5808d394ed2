-- All parts of a rule, and where they begin.
-- Assumes nothing.
use mathlib.Core.Path.{◌≡◌, refl, sym, ap, ◌∙◌}
use mathlib.Core.Bool.{Bool, true, false}
use mathlib.Core.List.{List, [], ◌∷◌}
use Prim.Native.Nat.{ℕ, zero, suc, ◌+◌}
use native.Mathlib.Omega.{arith}
use lib.ListN.{drop}
use Rattle.model.specs.declared.Ty.{Ty}
use Rattle.model.specs.Expressions.{Read, bad, got, after, read_many, expression, size_of, Scope}
use Rattle.model.specs.Rules.{Pattern, Action, nothing, bare, send, read_pattern, read_action, read_rule, rule_read, size_of_pattern, patterns_size, size_of_action, actions_size, Fit, fits, fails, also, patterns_fit, action_fits, actions_fit, scope_of, rule_fits}
use Rattle.expressions.specs.Reading.{is_read}
use Rattle.expressions.proofs.Depths.{All}
use Rattle.expressions.proofs.Parts.{size_is}
use Rattle.shapes.specs.declared.Arity.{Arity}
use Rattle.shapes.specs.Shapes.{types_in, shape_in}
use Rattle.rules.specs.declared.Parts.{Parts}
use Rattle.rules.specs.Bodies.{pattern_codes, action_codes, patterns_from, actions_from}
use Rattle.rules.proofs.Laying.{Laid, rule_is, rule_read_lem}
use Rattle.std.specs.Prelude.{Ok, Err}
use Rattle.typing.specs.Fits.{fitting_of, list_read, exp_read, scope_read, expressions_fit, Agree}
use Rattle.typing.proofs.Patterns.{pattern_size_lem, inputs_too}
use Rattle.typing.proofs.Scoping.{type_same}
use Rattle.typing.proofs.Actions.{action_read}

-- ── one part after another ───────────────────────────────────────────────────────────────────

pub also_fail : (f g : Fit) (j : ℕ) → Err j ≡ fitting_of f → Err j ≡ fitting_of (also f g)
unfolding fitting_of also
also_fail fits g j e = cc
also_fail (fails i) g j e = e

pub also_on : (f g : Fit) → Ok tt ≡ fitting_of f → also f g ≡ g
unfolding fitting_of also
also_on fits g e = refl
also_on (fails i) g e = cc

-- ── sizes ────────────────────────────────────────────────────────────────────────────────────

module _ {A : Type 0} (size : A → ℕ) (sizes : List A → ℕ) (none : sizes [] ≡ 0) (more : (x : A) (xs : List A) → sizes (x ∷ xs) ≡ size x + sizes xs) (f : List ℕ → Read A) (good : (u : List ℕ) (x : A) (n : ℕ) → f u ≡ got x n → size x ≡ n) where
  sum_got : (n : ℕ) (a : A) (r : Read (List A)) → size a ≡ n → All (λ xs m. sizes xs ≡ m) r → All (λ xs m. sizes xs ≡ m) (after r (λ rest m. got (a ∷ rest) (n + m)))
  unfolding All after
  sum_got n a bad e h = tt
  sum_got n a (got xs m) e h = more a xs ∙ rw (e, h)

  sum_go : (k : ℕ) (s : List ℕ) (r : Read A) → f s ≡ r → ((u : List ℕ) → All (λ xs m. sizes xs ≡ m) (read_many f k u)) → All (λ xs m. sizes xs ≡ m) (after r (λ a n. after (read_many f k (drop n s)) (λ rest m. got (a ∷ rest) (n + m))))
  unfolding All after
  sum_go k s bad e h = tt
  sum_go k s (got a n) e h = sum_got n a (read_many f k (drop n s)) (good s a n e) (h (drop n s))

  sum_many : (k : ℕ) (s : List ℕ) → All (λ xs m. sizes xs ≡ m) (read_many f k s)
  unfolding All read_many
  sum_many zero s = none
  sum_many (suc k) s = sum_go k s (f s) refl (sum_many k)

  pub sum_is : (k : ℕ) (s : List ℕ) {xs : List A} {n : ℕ} → read_many f k s ≡ got xs n → sizes xs ≡ n
  unfolding All
  sum_is k s e = let w : All (λ xs m. sizes xs ≡ m) (read_many f k s) = sum_many k s in rw e at w

pub patterns_size_lem : (v : Bool) (n at : ℕ) (b : List ℕ) {xs : List Pattern} {m : ℕ} → patterns_from v n at b ≡ got xs m → patterns_size xs ≡ m
unfolding patterns_from patterns_size
patterns_size_lem v n at b e = sum_is size_of_pattern patterns_size refl (λ x xs. refl) (read_pattern (pattern_codes v)) (λ u x m q. pattern_size_lem v u q) n (drop at b) e

pub actions_size_lem : (v : Bool) (n at : ℕ) (b : List ℕ) {xs : List Action} {m : ℕ} → actions_from v n at b ≡ got xs m → actions_size xs ≡ m
unfolding actions_from actions_size
actions_size_lem v n at b e = sum_is size_of_action actions_size refl (λ x xs. refl) (read_action (action_codes v)) (λ u x m q. (action_read (action_codes v) u q).1) n (drop at b) e

-- ── the same scope by number ─────────────────────────────────────────────────────────────────

module _ (s t : Scope) (h : Agree s t) where
  act-same : (at : ℕ) (u : Ty) (x : Action) → action_fits s at u x ≡ action_fits t at u x
  unfolding action_fits
  act-same at u nothing = refl
  act-same at u (bare tag) = refl
  act-same at u (send tag e) = rw (type_same s t h e)

  acts_same : (at : ℕ) (ts : List Ty) (xs : List Action) → actions_fit s at ts xs ≡ actions_fit t at ts xs
  unfolding actions_fit
  acts_same at ts [] = refl
  acts_same at [] (x ∷ xs) = refl
  acts_same at (u ∷ ts) (x ∷ xs) = rw (act-same at u x, acts_same (at + size_of_action x) ts xs)

  pub expressions_same : (a : Arity) (p : Parts) (outs vars b : List ℕ) → expressions_fit s a p outs vars b ≡ expressions_fit t a p outs vars b
  unfolding expressions_fit
  expressions_same a p outs vars b =
      rw (type_same s t h (exp_read (expression (drop p.guard b))), acts_same p.outs (types_in outs a.outs) (list_read (actions_from false a.outs p.outs b)), acts_same p.sets (types_in vars a.vars) (list_read (actions_from true a.vars p.sets b)))

-- ── the whole rule ───────────────────────────────────────────────────────────────────────────

-- where the parts of a body begin
module _ {b : List ℕ} {a : Arity} {p : Parts} (x : Laid a b p) where
  pub at_vars : patterns_size x.ins.thing ≡ p.vars
  at_vars = patterns_size_lem false a.ins 0 b x.ins.read ∙ omega (arith, x.ins.ends)

  pub at_guard : p.vars + patterns_size x.vars.thing ≡ p.guard
  at_guard = ap (λ (j : ℕ). p.vars + j) (patterns_size_lem true a.vars p.vars b x.vars.read) ∙ sym x.vars.ends

  pub at_outs : p.guard + size_of x.guard.thing ≡ p.outs
  at_outs = ap (λ (j : ℕ). p.guard + j) (size_is (drop p.guard b) x.guard.read) ∙ sym x.guard.ends

  pub at_sets : p.outs + actions_size x.outs.thing ≡ p.sets
  at_sets = ap (λ (j : ℕ). p.outs + j) (actions_size_lem false a.outs p.outs b x.outs.read) ∙ sym x.outs.ends

module _ (ins outs vars b : List ℕ) (a : Arity) (p : Parts) (x : Laid a b p) where
  pub rule_fits_lem : rule_fits (shape_in ins outs vars a) (rule_read (read_rule a.ins a.outs a.vars b))
      ≡ also (patterns_fit 0 (types_in ins a.ins) (list_read (patterns_from false a.ins 0 b)))
      (also (patterns_fit p.vars (types_in vars a.vars) (list_read (patterns_from true a.vars p.vars b)))
      (expressions_fit (scope_read (types_in ins a.ins) (types_in vars a.vars) (patterns_from false a.ins 0 b)) a p outs vars b))
  unfolding rule_fits shape_in rule_read rule_is scope_of scope_read expressions_fit list_read exp_read
  rule_fits_lem = rw (rule_read_lem x, at_vars x, at_guard x, at_outs x, at_sets x, x.ins.read, x.vars.read, x.guard.read, x.outs.read, x.sets.read)

pub ins_read : (a : Arity) (b : List ℕ) (p : Parts) → Laid a b p → is_read (patterns_from false a.ins 0 b) ≡ true
unfolding is_read
ins_read a b p x = rw x.ins.read

pub vars_read : (a : Arity) (b : List ℕ) (p : Parts) → Laid a b p → is_read (patterns_from true a.vars p.vars b) ≡ true
unfolding is_read
vars_read a b p x = rw x.vars.read

-- the patterns of the variables fit as those of inputs do
pub vars_fit : (vars b : List ℕ) (a : Arity) (p : Parts) → Laid a b p
    → patterns_fit p.vars (types_in vars a.vars) (list_read (patterns_from false a.vars p.vars b)) ≡ patterns_fit p.vars (types_in vars a.vars) (list_read (patterns_from true a.vars p.vars b))
vars_fit vars b a p x = ap (λ (r : Read (List Pattern)). patterns_fit p.vars (types_in vars a.vars) (list_read r)) (inputs_too a.vars p.vars b (vars_read a b p x))
