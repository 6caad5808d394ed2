-- A whole body is a rule, and a rule's limits part by part.
-- Assumes nothing.
use mathlib.Core.Path.{◌≡◌, refl, sym, ap, ◌∙◌, subst}
use mathlib.Core.Bool.{Bool, true, false, cond, ◌&&◌}
use mathlib.Core.List.{List}
use Prim.Native.Nat.{ℕ, ◌+◌}
use native.Mathlib.Nat.{zero-add}
use native.Mathlib.Omega.{arith}
use lib.Dec.{leb, ltb, eqb}
use lib.ListN.{drop, length}
use borrow.Author.Tests.{eqb-true}
use Rattle.std.specs.Prelude.{Option, Some, None}
use Rattle.model.specs.Expressions.{Read, bad, got, after, read_many, expression}
use Rattle.model.specs.Rules.{Rule, read_pattern, read_action, read_rule, rule_read, is_whole, input_code, variable_code, output_action, variable_action}
use Rattle.model.specs.NetworkFile.{rule_limits}
use Rattle.expressions.specs.Reading.{limits_read, end_from}
use Rattle.shapes.specs.declared.Arity.{Arity}
use Rattle.rules.specs.declared.Parts.{Parts}
use Rattle.rules.specs.Bodies.{pattern_codes, action_codes, patterns_from, actions_from, limits_of, next, layout_of}

-- ── the form of the rule ─────────────────────────────────────────────────────────────────────

unfoldable pub is_laid : Option Parts → Bool
is_laid None = false
is_laid (Some p) = true

module _ (b : List ℕ) where
  link : {A : Type 0} (k : ℕ) (r : Read A) (g : ℕ → Option Parts) (h : A → ℕ → Read Rule) → ((x : A) (n : ℕ) → is_laid (g (k + n)) ≡ is_whole (h x n) b) → is_laid (next (end_from k r) g) ≡ is_whole (after r h) b
  unfolding is_laid end_from is_whole after
  link k bad g h e = refl
  link k (got x n) g h e = e x n

  laid-if : (t : Bool) (p : Parts) → is_laid (cond t (Some p) None) ≡ t
  unfolding is_laid
  laid-if true p = refl
  laid-if false p = refl

  pub form_is : (a : Arity) → is_laid (layout_of a b) ≡ is_whole (read_rule a.ins a.outs a.vars b) b
  unfolding layout_of read_rule patterns_from actions_from pattern_codes action_codes is_whole
  form_is a =
      link 0 (read_many (read_pattern input_code) a.ins b) _ _
      (λ ins k. rw (zero-add k) (link k (read_many (read_pattern variable_code) a.vars (drop k b)) _ _
      (λ vars l. link (k + l) (expression (drop (k + l) b)) _ _
      (λ guard m. link (k + l + m) (read_many (read_action output_action) a.outs (drop (k + l + m) b)) _ _
      (λ outs n. link (k + l + m + n) (read_many (read_action variable_action) a.vars (drop (k + l + m + n) b)) _ _
      (λ sets q. laid-if (eqb (k + l + m + n + q) (length b)) _))))))

-- ── the parts of a whole body ────────────────────────────────────────────────────────────────

pub record Went (r : Option ℕ) (f : ℕ → Option Parts) (p : Parts) : Type 0 where
  pub to : ℕ
  pub here : r ≡ Some to
  pub rest : f to ≡ Some p

went : (r : Option ℕ) (f : ℕ → Option Parts) (p : Parts) → next r f ≡ Some p → Went r f p
went None f p e = absurd cc
went (Some n) f p e = record { to = n; here = refl; rest = e }

pub record Found {A : Type 0} (r : Read A) (at end : ℕ) : Type 0 where
  pub thing : A
  pub size : ℕ
  pub read : r ≡ got thing size
  pub ends : end ≡ at + size

pub found : {A : Type 0} (r : Read A) (at end : ℕ) → end_from at r ≡ Some end → Found r at end
unfolding end_from
found bad at end e = absurd cc
found (got x n) at end e = record { thing = x; size = n; read = refl; ends = cc }

-- what stands in a whole body
pub record Laid (a : Arity) (b : List ℕ) (p : Parts) : Type 0 where
  pub ins : Found (patterns_from false a.ins 0 b) 0 p.vars
  pub vars : Found (patterns_from true a.vars p.vars b) p.vars p.guard
  pub guard : Found (expression (drop p.guard b)) p.guard p.outs
  pub outs : Found (actions_from false a.outs p.outs b) p.outs p.sets
  pub sets : Found (actions_from true a.vars p.sets b) p.sets (length b)

whole_if : (t : Bool) (q p : Parts) → cond t (Some q) None ≡ Some p → (t ≡ true) × (q ≡ p)
whole_if true q p e = (refl, cc)
whole_if false q p e = absurd cc

pub laid : (a : Arity) (b : List ℕ) (p : Parts) → layout_of a b ≡ Some p → Laid a b p
unfolding layout_of
laid a b p e =
    let w₁ = went (end_from 0 (patterns_from false a.ins 0 b)) _ p e in
    let w₂ = went (end_from w₁.to (patterns_from true a.vars w₁.to b)) _ p w₁.rest in
    let w₃ = went (end_from w₂.to (expression (drop w₂.to b))) _ p w₂.rest in
    let w₄ = went (end_from w₃.to (actions_from false a.outs w₃.to b)) _ p w₃.rest in
    let w₅ = went (end_from w₄.to (actions_from true a.vars w₄.to b)) _ p w₄.rest in
    let w = whole_if (eqb w₅.to (length b)) (record { vars = w₁.to; guard = w₂.to; outs = w₃.to; sets = w₄.to }) p w₅.rest in
    let last : end_from w₄.to (actions_from true a.vars w₄.to b) ≡ Some (length b) = w₅.here ∙ ap Some (eqb-true w₅.to (length b) w.0) in
    let there : Laid a b (record { vars = w₁.to; guard = w₂.to; outs = w₃.to; sets = w₄.to }) = record {
      ins = found (patterns_from false a.ins 0 b) 0 w₁.to w₁.here;
      vars = found (patterns_from true a.vars w₁.to b) w₁.to w₂.to w₂.here;
      guard = found (expression (drop w₂.to b)) w₂.to w₃.to w₃.here;
      outs = found (actions_from false a.outs w₃.to b) w₃.to w₄.to w₄.here;
      sets = found (actions_from true a.vars w₄.to b) w₄.to (length b) last;
    } in
    subst (λ (q : Parts). Laid a b q) w.1 there

-- the rule that stands there
unfoldable pub rule_is : {a : Arity} {b : List ℕ} {p : Parts} → Laid a b p → Rule
rule_is x = record { ins = x.ins.thing; vars = x.vars.thing; guard = x.guard.thing; outs = x.outs.thing; sets = x.sets.thing }

-- the rule is read, and is all of the body
pub rule_read_lem : {a : Arity} {b : List ℕ} {p : Parts} (x : Laid a b p) → read_rule a.ins a.outs a.vars b ≡ got (rule_is x) (length b)
unfolding read_rule after patterns_from actions_from pattern_codes action_codes rule_is
rule_read_lem {a} {b} {p} x =
    let k = x.ins.size in
    let l = x.vars.size in
    let m = x.guard.size in
    let n = x.outs.size in
    let q = x.sets.size in
    let e₂ : p.vars ≡ k = omega (arith, x.ins.ends) in
    let e₃ : p.guard ≡ k + l = omega (arith, x.vars.ends) in
    let e₄ : p.outs ≡ k + l + m = omega (arith, x.guard.ends) in
    let e₅ : p.sets ≡ k + l + m + n = omega (arith, x.outs.ends) in
    let e₆ : k + l + m + n + q ≡ length b = omega (arith, x.sets.ends) in
    let r₁ : read_many (read_pattern input_code) a.ins b ≡ got x.ins.thing k = x.ins.read in
    let r₂ : read_many (read_pattern variable_code) a.vars (drop k b) ≡ got x.vars.thing l = ap (λ (j : ℕ). read_many (read_pattern variable_code) a.vars (drop j b)) (sym e₂) ∙ x.vars.read in
    let r₃ : expression (drop (k + l) b) ≡ got x.guard.thing m = ap (λ (j : ℕ). expression (drop j b)) (sym e₃) ∙ x.guard.read in
    let r₄ : read_many (read_action output_action) a.outs (drop (k + l + m) b) ≡ got x.outs.thing n = ap (λ (j : ℕ). read_many (read_action output_action) a.outs (drop j b)) (sym e₄) ∙ x.outs.read in
    let r₅ : read_many (read_action variable_action) a.vars (drop (k + l + m + n) b) ≡ got x.sets.thing q = ap (λ (j : ℕ). read_many (read_action variable_action) a.vars (drop j b)) (sym e₅) ∙ x.sets.read in
    rw (r₁, r₂, r₃, r₄, r₅, e₆)

-- ── the limits of the rule ───────────────────────────────────────────────────────────────────

module _ {a : Arity} {b : List ℕ} {p : Parts} (x : Laid a b p) (seen : ℕ) where
  pub rule_limits_lem : rule_limits seen b (rule_read (read_rule a.ins a.outs a.vars b)) ≡ (ltb seen 16 && leb (length b) 512 && limits_read (expression (drop p.guard b)) && limits_of (actions_from false a.outs p.outs b) && limits_of (actions_from true a.vars p.sets b))
  unfolding rule_limits rule_read limits_read limits_of rule_is
  rule_limits_lem = rw (rule_read_lem x, x.guard.read, x.outs.read, x.sets.read)
