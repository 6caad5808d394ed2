-- The ways out of a rule whose patterns are ready.
-- Assumes nothing.
use mathlib.Core.Path.{◌≡◌, refl, sym, ap, ◌∙◌}
use mathlib.Core.Bool.{Bool, true, false, cond}
use mathlib.Core.List.{List}
use Prim.Native.Nat.{ℕ}
use native.Mathlib.Omega.{arith}
use lib.ListN.{drop}
use Rattle.std.specs.Prelude.{Option, Result, Ok, Err, Some, None, ⊤}
use Rattle.model.specs.declared.Fault.{Fault}
use Rattle.model.specs.declared.Value.{Value}
use Rattle.model.specs.Values.{Outcome, is_true}
use Rattle.model.specs.Expressions.{Read, expression, Env, value_of}
use Rattle.model.specs.Rules.{Rule, Action, rule_read, read_rule}
use Rattle.model.specs.Cycles.{attempt, guarded, chosen, fires}
use Rattle.types.specs.Scopes.{scope_in}
use Rattle.shapes.specs.declared.Arity.{Arity}
use Rattle.rules.specs.declared.Parts.{Parts}
use Rattle.expressions.specs.Reading.{limits_read}
use Rattle.rules.specs.Bodies.{actions_from, limits_of}
use Rattle.rules.proofs.Laying.{Found, rule_is, rule_read_lem}
use Rattle.typing.specs.Fits.{exp_read, list_read}
use Rattle.typing.proofs.Actions.{outputs_too, limits_read_lem}
use Rattle.matching.specs.Outs.{open_from, outs_of}
use Rattle.actions.specs.Acts.{has_type, all_typed, faults_of, mark_or}
use Rattle.actions.proofs.Acting.{Ready}
use Rattle.actions.proofs.Worked.{guard_has, chosen_faults}
use Rattle.actions.proofs.Placed.{held}
use Rattle.trying.specs.Views.{judge_of}
use Rattle.trying.specs.Working.{Workable, judged_as}

found_open : {r : Read (List Action)} {at end : ℕ} (q : Found r at end) (full : List ℕ) → outs_of full 0 at r ≡ cond (open_from full 0 q.thing) (Some end) None
unfolding outs_of
found_open q full = rw (q.read, q.ends)

-- all is open, and the variables' actions begin at y
pub record Opened (en : Env) (full : List ℕ) (r : Rule) (from y : ℕ) : Type 0 where
  pub sets : y ≡ from
  pub judgement : judge_of en full r 0 ≡ guarded en r 0 (value_of en r.guard)

module _ (a : Arity) (b : List ℕ) (types : List ℕ) (w : Workable a b types) where
  abbrev p : Parts
  p = w.parts

  abbrev ru : Rule
  ru = rule_read (read_rule a.ins a.outs a.vars b)

  rule_is_lem : ru ≡ rule_is w.laid
  unfolding rule_read
  rule_is_lem = rw (rule_read_lem w.laid)

  guard_is : (at : ℕ) → at ≡ p.guard → exp_read (expression (drop at b)) ≡ ru.guard
  guard_is at e = ap (λ (k : ℕ). exp_read (expression (drop k b))) e ∙ (held w.laid).guard

  outs_is : (at : ℕ) → at ≡ p.outs → list_read (actions_from false a.outs at b) ≡ ru.outs
  outs_is at e = ap (λ (k : ℕ). list_read (actions_from false a.outs k b)) e ∙ (held w.laid).outs

  -- a variable's actions, read as an output's or as a variable's
  sets_too : (var : Bool) (at : ℕ) → at ≡ p.sets → actions_from var a.vars at b ≡ actions_from true a.vars p.sets b
  sets_too true at e = ap (λ (k : ℕ). actions_from true a.vars k b) e
  sets_too false at e = ap (λ (k : ℕ). actions_from false a.vars k b) e ∙ outputs_too a.vars p.sets b (limits_read_lem _ w.kept.sets)

  sets_is : (var : Bool) (at : ℕ) → at ≡ p.sets → list_read (actions_from var a.vars at b) ≡ ru.sets
  sets_is var at e = ap list_read (sets_too var at e) ∙ (held w.laid).sets

  -- what the guard and the actions ask for, from where they begin
  pub guard_ready : (at : ℕ) → at ≡ p.guard → (limits_read (expression (drop at b)) ≡ true) × (has_type (scope_in types) (exp_read (expression (drop at b))) ≡ true)
  guard_ready at e = (ap (λ (k : ℕ). limits_read (expression (drop k b))) e ∙ w.kept.guard, ap (has_type (scope_in types)) (guard_is at e) ∙ guard_has w.judged)

  pub outs_ready : (at : ℕ) → at ≡ p.outs → Ready (scope_in types) false b a.outs at
  outs_ready at e = record { limits = ap (λ (k : ℕ). limits_of (actions_from false a.outs k b)) e ∙ w.kept.outs; typed = ap (all_typed (scope_in types)) (outs_is at e) ∙ w.judged.outs }

  pub sets_ready : {var : Bool} (at : ℕ) → at ≡ p.sets → Ready (scope_in types) var b a.vars at
  sets_ready {var} at e = record { limits = ap limits_of (sets_too var at e) ∙ w.kept.sets; typed = ap (all_typed (scope_in types)) (sets_is var at e) ∙ w.judged.sets }

  module _ (en : Env) where
    -- the chosen rule: a fault of its outputs, a fault of its variables, none
    module _ (x y : ℕ) (ex : x ≡ p.outs) (ey : y ≡ p.sets) where
      abbrev outs_faults : Result ⊤ Fault
      outs_faults = faults_of en (list_read (actions_from false a.outs x b))

      abbrev sets_faults : Bool → Result ⊤ Fault
      sets_faults var = faults_of en (list_read (actions_from var a.vars y b))

      chosen_is : (var : Bool) → chosen en ru 0 ≡ mark_or outs_faults (mark_or (sets_faults var) (fires 0))
      chosen_is var = chosen_faults en ru 0 ∙ rw (outs_is x ex, sets_is var y ey)

      pub chosen_outs : (n : Fault) → Err n ≡ outs_faults → Err n ≡ judged_as (chosen en ru 0)
      unfolding mark_or judged_as
      chosen_outs n e = sym (ap judged_as (chosen_is true) ∙ rw (← e))

      pub chosen_sets : (var : Bool) (n : Fault) → Ok tt ≡ outs_faults → Err n ≡ sets_faults var → Err n ≡ judged_as (chosen en ru 0)
      unfolding mark_or judged_as
      chosen_sets var n e g = sym (ap judged_as (chosen_is var) ∙ rw (← e, ← g))

      pub chosen_fires : (var : Bool) → Ok tt ≡ outs_faults → Ok tt ≡ sets_faults var → Ok true ≡ judged_as (chosen en ru 0)
      unfolding mark_or judged_as
      chosen_fires var e g = sym (ap judged_as (chosen_is var) ∙ rw (← e, ← g))

    module _ (full : List ℕ) (at : ℕ) (ea : at ≡ p.guard) where
      abbrev judged : Result Bool Fault
      judged = judged_as (judge_of en full ru 0)

      open_is : (x : ℕ) → x ≡ p.outs → outs_of full 0 x (actions_from false a.outs x b) ≡ cond (open_from full 0 ru.outs) (Some p.sets) None
      unfolding rule_is
      open_is x e =
          ap (λ (k : ℕ). outs_of full 0 k (actions_from false a.outs k b)) e ∙ found_open w.laid.outs full
          ∙ ap (λ (r : Rule). cond (open_from full 0 r.outs) (Some p.sets) None) (sym rule_is_lem)

      by_open : (x : ℕ) → x ≡ p.outs → (t : Bool) → open_from full 0 ru.outs ≡ t → outs_of full 0 x (actions_from false a.outs x b) ≡ cond t (Some p.sets) None
      by_open x e t q = open_is x e ∙ rw q

      pub judge_shut : (x : ℕ) → x ≡ p.outs → None ≡ outs_of full 0 x (actions_from false a.outs x b) → Ok false ≡ judged
      unfolding judge_of attempt judged_as
      judge_shut x e s = go (open_from full 0 ru.outs) refl
        where
          go : (t : Bool) → open_from full 0 ru.outs ≡ t → Ok false ≡ judged
          go true q = let z : ◌≡◌ {A = Option ℕ} None (Some p.sets) = s ∙ by_open x e true q in let z' : ◌≡◌ {A = ℕ} 0 1 = cc in absurd (omega arith)
          go false q = rw q

      pub opened : (x y : ℕ) → x ≡ p.outs → Some y ≡ outs_of full 0 x (actions_from false a.outs x b) → Opened en full ru p.sets y
      unfolding judge_of attempt
      opened x y e s = go (open_from full 0 ru.outs) refl
        where
          go : (t : Bool) → open_from full 0 ru.outs ≡ t → Opened en full ru p.sets y
          go true q = let z : Some y ≡ Some p.sets = s ∙ by_open x e true q in record { sets = cc; judgement = rw q }
          go false q = let z : ◌≡◌ {A = Option ℕ} (Some y) None = s ∙ by_open x e false q in let z' : ◌≡◌ {A = ℕ} 0 1 = cc in absurd (omega arith)

      module _ (y : ℕ) (o : Opened en full ru p.sets y) where
        judge_by : (v : Outcome) → v ≡ value_of en (exp_read (expression (drop at b))) → judge_of en full ru 0 ≡ guarded en ru 0 v
        judge_by v e = o.judgement ∙ ap (guarded en ru 0) (ap (value_of en) (sym (guard_is at ea)) ∙ sym e)

        pub judge_fault : (n : Fault) → Err n ≡ value_of en (exp_read (expression (drop at b))) → Err n ≡ judged
        unfolding guarded judged_as
        judge_fault n e = sym (ap judged_as (judge_by (Err n) e))

        pub judge_false : (v : Value) → Ok v ≡ value_of en (exp_read (expression (drop at b))) → is_true v.value ≡ false → Ok false ≡ judged
        unfolding guarded attempt judged_as
        judge_false v e g = sym (ap judged_as (judge_by (Ok v) e) ∙ rw g)

        pub judge_true : {r : Result Bool Fault} (v : Value) → Ok v ≡ value_of en (exp_read (expression (drop at b))) → is_true v.value ≡ true → r ≡ judged_as (chosen en ru 0) → r ≡ judged
        unfolding guarded attempt
        judge_true v e g h = h ∙ sym (ap judged_as (judge_by (Ok v) e) ∙ rw g)
