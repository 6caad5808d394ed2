-- A box of an accepted network: its shape and its rules, as the code has them in tables.
-- Assumes nothing.
use mathlib.Core.Path.{◌≡◌, refl, sym, ap, ◌∙◌}
use mathlib.Core.Bool.{true, false}
use mathlib.Core.List.{List, [], ◌∷◌}
use Prim.Native.Nat.{ℕ, suc, ◌*◌, ◌≤◌, ◌<◌}
use native.Mathlib.Omega.{arith}
use lib.Dec.{leb, ltb}
use lib.ListN.{length, get_or, drop}
use Rattle.model.specs.declared.Ty.{Ty}
use Rattle.model.specs.Expressions.{Read, expression, type_at}
use Rattle.model.specs.Rules.{Rule, Shape, read_rule, rule_read, is_whole, scope_of}
use Rattle.model.specs.Network.{Wire, Variable, shape_of, rule, wire_types, variable_types}
use Rattle.model.specs.NetworkFile.{Index, body_at, box_of, wires_of, shape_at, box_at, rule_in, rule_form, rule_limits, rule_at}
use Rattle.model.proofs.Accepted.{RuleField}
use Rattle.model.proofs.Decoded.{GoodRule, length-tabulate, shape_ins, shape_vars, rule_good}
use Rattle.model.proofs.Tests.{and₅}
use Rattle.model.proofs.Lookup.{rule_at_lem}
use Rattle.shapes.specs.Shapes.{wires_in, BoxFits, types_in, shape_in}
use Rattle.shapes.specs.declared.Arity.{Arity}
use Rattle.rules.specs.declared.Parts.{Parts}
use Rattle.std.specs.Prelude.{Option, Some, None}
use Rattle.expressions.specs.Reading.{limits_read}
use Rattle.rules.specs.Bodies.{patterns_from, actions_from, limits_of, layout_of, Parted}
use Rattle.rules.proofs.Laying.{Laid, laid, is_laid, form_is, rule_is, rule_read_lem, rule_limits_lem}
use Rattle.typing.specs.Fits.{scope_read, list_read, Kept}
use Rattle.table.specs.declared.Counts.{Counts}
use Rattle.table.specs.Table.{index_in, region}
use Rattle.table.proofs.Lengths.{box_fits}
use Rattle.lookup.specs.Tabled.{Tabled}
use Rattle.lookup.proofs.Tabled.{valid, n_boxes, rule_known}
use Rattle.actions.proofs.Worked.{Judged, rule_judged}
use Rattle.trying.specs.Working.{Ruled, Rules}
use Rattle.sights.proofs.Ports.{box_is}

pub wire_types_lem : (ws : List Wire) (is : List ℕ) → length (wire_types ws is) ≡ length is
unfolding wire_types
wire_types_lem ws [] = refl
wire_types_lem ws (i ∷ is) = ap suc (wire_types_lem ws is)

pub variable_types_lem : (vs : List Variable) → length (variable_types vs) ≡ length vs
unfolding variable_types
variable_types_lem [] = refl
variable_types_lem (v ∷ vs) = ap suc (variable_types_lem vs)

ins_of_lem : {a : Arity} {b : List ℕ} {p : Parts} → Laid a b p → list_read (patterns_from false a.ins 0 b) ≡ (rule_read (read_rule a.ins a.outs a.vars b)).ins
unfolding list_read rule_read rule_is
ins_of_lem w = rw (w.ins.read, rule_read_lem w)

-- a body that is laid out has parts
parted : (a : Arity) (b : List ℕ) (y : Option Parts) → layout_of a b ≡ y → is_laid y ≡ true → Parted a b
unfolding is_laid
parted a b None e g = absurd cc
parted a b (Some p) e g = record { parts = p; whole = e }

module _ (s t : List ℕ) (c : Counts) (h : Tabled s t c) (k : ℕ) (l : k < c.boxes) where
  abbrev x : Index
  x = index_in t c

  here : k < length x.boxes
  here = omega (arith, l, n_boxes s t c h)

  module _ (o : ℕ) (e : o ≡ get_or x.boxes k 0) where
    pub box_ready : BoxFits s o
    box_ready = rw e (box_fits s (length x.wires) k (get_or x.boxes k 0) ((valid s t c h).boxes k here))

    shape_is : shape_of (wires_in s t c.wires) (box_of (body_at s o)) ≡ shape_at s x k
    unfolding shape_at wires_of wires_in index_in region
    shape_is = ap (λ (j : ℕ). shape_of (wires_in s t c.wires) (box_of (body_at s j))) e

    module _ (ins outs vars : List ℕ) (a : Arity) (d : shape_in ins outs vars a ≡ shape_of (wires_in s t c.wires) (box_of (body_at s o))) where
      abbrev sh : Shape
      sh = shape_at s x k

      pub ins_types : types_in ins a.ins ≡ sh.ins
      unfolding shape_in
      ins_types = ap (λ (y : Shape). y.ins) (d ∙ shape_is)

      pub outs_types : types_in outs a.outs ≡ sh.outs
      unfolding shape_in
      outs_types = ap (λ (y : Shape). y.outs) (d ∙ shape_is)

      pub vars_types : types_in vars a.vars ≡ sh.vars
      unfolding shape_in
      vars_types = ap (λ (y : Shape). y.vars) (d ∙ shape_is)

      pub many : (t' : List ℕ) (n : ℕ) {ts : List Ty} → types_in t' n ≡ ts → length ts ≡ n
      unfolding types_in
      many t' n q = ap length (sym q) ∙ length-tabulate n (λ j. type_at t' (2 * j))

      few_ins : a.ins ≤ 4
      unfolding shape_at shape_of box_at
      few_ins = omega (arith, many ins a.ins ins_types, wire_types_lem (wires_of s x) (box_of (body_at s (get_or x.boxes k 0))).ins, (box_is s t c h k l).few_ins)

      few_outs : a.outs ≤ 4
      unfolding shape_at shape_of box_at
      few_outs = omega (arith, many outs a.outs outs_types, wire_types_lem (wires_of s x) (box_of (body_at s (get_or x.boxes k 0))).outs, (box_is s t c h k l).few_outs)

      few_vars : a.vars ≤ 4
      unfolding shape_at shape_of box_at
      few_vars = omega (arith, many vars a.vars vars_types, variable_types_lem (box_of (body_at s (get_or x.boxes k 0))).vars, (box_is s t c h k l).few_vars)

      -- the rules are read with the shape's counts
      pub read_is : (b : List ℕ) → read_rule a.ins a.outs a.vars b ≡ rule_in sh b
      unfolding rule_in
      read_is b = rw (many ins a.ins ins_types, many outs a.outs outs_types, many vars a.vars vars_types)

      module _ (r : ℕ) (m : r < length (box_at s x k).rules) where
        abbrev b : List ℕ
        b = body_at s (rule_at x k r)

        field : RuleField s sh (rule_at x k r)
        field = (valid s t c h).rules k r here (rule_known s t c h k r l m)

        pub good : GoodRule sh (rule_read (rule_in sh b))
        good = rule_good s sh (rule_at x k r) field

        -- the rule of the box
        pub rule_is_lem : rule_read (read_rule a.ins a.outs a.vars b) ≡ rule (box_at s x k) r
        rule_is_lem = ap rule_read (read_is b) ∙ sym (rule_at_lem s x [] k r (rule_known s t c h k r l m))

        pub parts_here : Parted a b
        unfolding rule_form
        parts_here = parted a b (layout_of a b) refl (form_is b a ∙ ap (λ (y : Read Rule). is_whole y b) (read_is b) ∙ field.passes.form)

        laid_here : Laid a b parts_here.parts
        laid_here = laid a b parts_here.parts parts_here.whole

        limits_here : rule_limits field.seen b (rule_read (read_rule a.ins a.outs a.vars b)) ≡ true
        limits_here = ap (λ (y : Read Rule). rule_limits field.seen b (rule_read y)) (read_is b) ∙ field.passes.limits

        pub kept_here : Kept a parts_here.parts b
        kept_here =
            let w = and₅ (ltb field.seen 16) (leb (length b) 512) (limits_read (expression (drop parts_here.parts.guard b))) (limits_of (actions_from false a.outs parts_here.parts.outs b)) (limits_of (actions_from true a.vars parts_here.parts.sets b))
            (sym (rule_limits_lem laid_here field.seen) ∙ limits_here) in
            record { guard = w.2; outs = w.3; sets = w.4 }

        -- the scope as it is read is the rule's
        scope_is : scope_read (types_in ins a.ins) (types_in vars a.vars) (patterns_from false a.ins 0 b) ≡ scope_of sh (rule_read (read_rule a.ins a.outs a.vars b))
        unfolding scope_read scope_of
        scope_is = rw (ins_types, vars_types, ins_of_lem laid_here)

        judged_here : Judged (scope_read (types_in ins a.ins) (types_in vars a.vars) (patterns_from false a.ins 0 b)) (rule_read (read_rule a.ins a.outs a.vars b))
        judged_here = rw scope_is (rw (read_is b) (rule_judged sh (rule_read (rule_in sh b)) good))

        pub ruled : Ruled a ins vars b
        ruled = record {
          parts = parts_here.parts;
          few_ins = few_ins;
          few_outs = few_outs;
          few_vars = few_vars;
          laid = laid_here;
          kept = kept_here;
          judged = judged_here;
          good_ins = rw ins_types (shape_ins s x (valid s t c h) k here);
          good_vars = rw vars_types (shape_vars s x (valid s t c h) k here);
        }

      pub rules_ready : (n : ℕ) → n ≡ length (box_at s x k).rules → Rules s t c k n a ins vars
      rules_ready n f = record {
        known = l;
        there = omega (arith, f);
        few = omega (arith, f, (box_is s t c h k l).few_rules);
        few_ins = few_ins;
        few_vars = few_vars;
        ruled = λ r m. ruled r (omega (arith, m, f));
      }
