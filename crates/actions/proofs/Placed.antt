-- The guard and the actions of a rule, where they stand in its body.
-- Assumes nothing.
use mathlib.Core.Path.{◌≡◌, ap, ◌∙◌}
use mathlib.Core.Bool.{true, false}
use mathlib.Core.List.{List}
use Prim.Native.Nat.{ℕ}
use lib.ListN.{drop}
use Rattle.model.specs.Expressions.{expression, Scope}
use Rattle.model.specs.Rules.{Rule, read_rule, rule_read}
use Rattle.shapes.specs.declared.Arity.{Arity}
use Rattle.rules.specs.declared.Parts.{Parts}
use Rattle.rules.specs.Bodies.{actions_from}
use Rattle.rules.proofs.Laying.{Laid, rule_is, rule_read_lem}
use Rattle.typing.specs.Fits.{list_read, exp_read, Kept}
use Rattle.actions.specs.Acts.{has_type, all_typed}
use Rattle.actions.proofs.Acting.{Ready}
use Rattle.actions.proofs.Worked.{Judged, guard_has}

-- what is read at the offsets of the parts is the rule's
pub record Held (a : Arity) (p : Parts) (b : List ℕ) (r : Rule) : Type 0 where
  pub guard : exp_read (expression (drop p.guard b)) ≡ r.guard
  pub outs : list_read (actions_from false a.outs p.outs b) ≡ r.outs
  pub sets : list_read (actions_from true a.vars p.sets b) ≡ r.sets

pub held : {a : Arity} {b : List ℕ} {p : Parts} → Laid a b p → Held a p b (rule_read (read_rule a.ins a.outs a.vars b))
unfolding rule_read rule_is list_read exp_read
held x = rw (rule_read_lem x) (record { guard = ap exp_read x.guard.read; outs = ap list_read x.outs.read; sets = ap list_read x.sets.read })

-- the guard has a type, and the actions can be worked out one after another
pub record Workable (sc : Scope) (a : Arity) (p : Parts) (b : List ℕ) : Type 0 where
  pub guard : has_type sc (exp_read (expression (drop p.guard b))) ≡ true
  pub outs : Ready sc false b a.outs p.outs
  pub sets : Ready sc true b a.vars p.sets

pub workable : (sc : Scope) (a : Arity) (p : Parts) (b : List ℕ) (r : Rule) → Kept a p b → Held a p b r → Judged sc r → Workable sc a p b
workable sc a p b r k h x = record {
  guard = ap (has_type sc) h.guard ∙ guard_has x;
  outs = record { limits = k.outs; typed = ap (all_typed sc) h.outs ∙ x.outs };
  sets = record { limits = k.sets; typed = ap (all_typed sc) h.sets ∙ x.sets };
}
