-- The mark of a box from what it sees.
-- Assumes nothing.
use mathlib.Core.Path.{◌≡◌, refl, sym, ap, ap₂, ◌∙◌}
use mathlib.Core.Bool.{true}
use mathlib.Core.List.{List, ◌++◌, map}
use Prim.Native.Nat.{ℕ, zero, suc, ◌+◌, ◌<◌}
use native.Mathlib.Omega.{arith}
use lib.IntN.{ℤ}
use lib.ListN.{length, get_or, get_or-append}
use Rattle.model.specs.Rules.{Rule, ignore, rule_read, read_rule}
use Rattle.model.specs.Network.{Box, Net, State, box, proc, own, vars_of, shape_of}
use Rattle.model.specs.NetworkFile.{Index, body_at, box_of, wires_of, shape_at, box_at, net_of, rule_at}
use Rattle.model.specs.Expressions.{value_of}
use Rattle.model.specs.Cycles.{Mark, attempt, guarded, ready_rule, or_else, first, up_from, tried, try_rule, mark_of, mark, env_of, look, reads}
use Rattle.model.proofs.Decoded.{GoodRule}
use Rattle.model.proofs.Kept.{GoodOwn}
use Rattle.model.proofs.Lookup.{box_proc, procs_length}
use Rattle.shapes.specs.Shapes.{wires_in, types_in, shape_in}
use Rattle.shapes.specs.declared.Arity.{Arity}
use Rattle.rules.proofs.Laying.{rule_is, rule_read_lem}
use Rattle.table.specs.declared.Counts.{Counts}
use Rattle.table.specs.Table.{index_in}
use Rattle.lookup.proofs.Tabled.{n_boxes}
use Rattle.actions.proofs.Worked.{rule_judged}
use Rattle.places.specs.Standing.{tokens_of, net_in, Standing, state_of}
use Rattle.places.proofs.Standing.{state_good}
use Rattle.sights.specs.declared.View.{View}
use Rattle.sights.specs.Seen.{Seen}
use Rattle.sights.proofs.Ports.{box_is}
use Rattle.std.specs.Prelude.{Option, Result}
use Rattle.model.specs.declared.Fault.{Fault}
use Rattle.model.specs.declared.RuleId.{RuleId}
use Rattle.trying.specs.Views.{try_on, mark_as}
use Rattle.trying.specs.Working.{Ruled}
use Rattle.trying.proofs.Offsets.{ins_length, pattern_stands}
use Rattle.marking.proofs.Boxes.{wire_types_lem, variable_types_lem, ins_types, vars_types, read_is, good, rule_is_lem, ruled}
use Rattle.marking.proofs.Trials.{tagged, tag_known, Suits, trial_same}

-- the same first mark
first_same : (f g : ℕ → Mark) (i n : ℕ) → ((r : ℕ) → r < i + n → f r ≡ g r) → first f (up_from i n) ≡ first g (up_from i n)
unfolding first up_from
first_same f g i zero h = refl
first_same f g i (suc n) h = ap₂ or_else (h i (omega arith)) (first_same f g (suc i) n (λ r l. h r (omega arith)))

module _ (s t p ts b : List ℕ) (c : Counts) (h : Standing s t p ts b c) (k : ℕ) (l : k < c.boxes) where
  abbrev x : Index
  x = index_in t c

  abbrev N : Net
  N = net_in s t c ts

  abbrev S : State
  S = state_of s t c ts b

  abbrev B : Box
  B = box_at s x k

  abbrev vs : List ℤ
  vs = vars_of (own S k)

  here : k < length x.boxes
  here = omega (arith, l, n_boxes s t c h.tabled)

  pub proc_is : proc N k ≡ box B
  unfolding net_in
  proc_is = box_proc s x (tokens_of s t c ts) k here

  mark_is : mark N S k ≡ first (try_rule N S B vs) (up_from 0 (length B.rules))
  unfolding mark mark_of tried
  mark_is = rw proc_is

  pub vars_many : length vs ≡ length B.vars
  unfolding net_in
  vars_many =
      let g : GoodOwn N (proc N k) (own S k) = (state_good s t p ts b c h).kept k (omega (arith, here, procs_length s x (tokens_of s t c ts))) in
      (rw proc_is at g).number

  module _ (o : ℕ) (e : o ≡ get_or x.boxes k 0) (ins outs vars : List ℕ) (a : Arity) (d : shape_in ins outs vars a ≡ shape_of (wires_in s t c.wires) (box_of (body_at s o))) where
    module _ (r : ℕ) (m : r < length B.rules) where
      abbrev ru : Rule
      ru = rule_read (read_rule a.ins a.outs a.vars (body_at s (rule_at x k r)))

      good_here : GoodRule (shape_at s x k) ru
      good_here = rw (read_is s t c h.tabled k l o e ins outs vars a d (body_at s (rule_at x k r))) (good s t c h.tabled k l o e ins outs vars a d r m)

      ready : Ruled a ins vars (body_at s (rule_at x k r))
      ready = ruled s t c h.tabled k l o e ins outs vars a d r m

      tags : (i : ℕ) → i < length ru.ins → tagged (get_or ru.ins i ignore) ≡ true
      tags i q =
          let all = (rule_is ready.laid).ins ++ (rule_is ready.laid).vars in
          let e' : ru ≡ rule_is ready.laid = unfold rule_read in rw (rule_read_lem ready.laid) in
          let j : i < length (rule_is ready.laid).ins = rw e' at q in
          let w = pattern_stands a (body_at s (rule_at x k r)) ready.parts ready.laid i (omega (arith, j, ins_length a (body_at s (rule_at x k r)) ready.parts ready.laid)) in
          rw e' (ap tagged (sym (w.is ∙ get_or-append (rule_is ready.laid).ins (rule_is ready.laid).vars ignore i j)) ∙ tag_known _ _)

      pub suits : Suits N B vs ru
      unfolding net_in net_of shape_at shape_of box_at
      suits = record {
        ins = sym (good_here.ins ∙ wire_types_lem (wires_of s x) (box_of (body_at s (get_or x.boxes k 0))).ins);
        vars = vars_many ∙ sym (good_here.vars ∙ variable_types_lem (box_of (body_at s (get_or x.boxes k 0))).vars);
        outs = sym (good_here.outs ∙ wire_types_lem (wires_of s x) (box_of (body_at s (get_or x.boxes k 0))).outs);
        few_ins = (box_is s t c h.tabled k l).few_ins;
        few_vars = omega (arith, vars_many, (box_is s t c h.tabled k l).few_vars);
        typed_vars = variable_types_lem (box_of (body_at s (get_or x.boxes k 0))).vars ∙ sym vars_many;
        tags = tags;
        judged = rule_judged (shape_at s x k) ru good_here;
      }

      trial_is : (v : View) → Seen N S B vs v → try_on (types_in ins a.ins) (types_in vars a.vars) v.heads v.full v.vals ru r ≡ try_rule N S B vs r
      unfolding try_rule shape_at shape_of box_at net_in net_of
      trial_is v q =
          rw (ins_types s t c h.tabled k l o e ins outs vars a d, vars_types s t c h.tabled k l o e ins outs vars a d)
          (trial_same N S B vs v q ru suits r ∙ ap (λ (y : Rule). attempt (ready_rule N S B y vs) (guarded (env_of N B y (look S B.ins (map reads y.ins)) vs) y r (value_of (env_of N B y (look S B.ins (map reads y.ins)) vs) y.guard))) (rule_is_lem s t c h.tabled k l o e ins outs vars a d r m))

    pub box_marked : {q : Result (Option RuleId) Fault} (v : View) → Seen N S B vs v → (n : ℕ) → n ≡ length B.rules
        → q ≡ mark_as (first (λ r. try_on (types_in ins a.ins) (types_in vars a.vars) v.heads v.full v.vals (rule_read (read_rule a.ins a.outs a.vars (body_at s (rule_at x k r)))) r) (up_from 0 n))
        → q ≡ mark_as (mark N S k)
    box_marked v g n f q =
        q ∙ ap mark_as (first_same _ (try_rule N S B vs) 0 n (λ r i. trial_is r (omega (arith, i, f)) v g) ∙ ap (λ (j : ℕ). first (try_rule N S B vs) (up_from 0 j)) f ∙ sym mark_is)
