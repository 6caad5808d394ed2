-- A rule's values and types in the tables of the code, and as its box sees them.
-- Assumes nothing.
use mathlib.Core.Path.{◌≡◌, refl, ap, ◌∙◌, subst}
use mathlib.Core.Bool.{Bool, false}
use mathlib.Core.List.{List, []}
use Prim.Native.Nat.{ℕ, ◌≤◌, ◌^◌}
use lib.IntN.{ℤ, pos}
use lib.ListN.{get_or}
use lib.Signed.{mag}
use Rattle.model.specs.Expressions.{Env}
use Rattle.model.specs.Rules.{Rule, Pattern, rule_read, read_rule, matched_types, scope_of}
use Rattle.model.specs.Cycles.{attempt}
use Rattle.types.specs.Scopes.{scope_in}
use Rattle.shapes.specs.declared.Arity.{Arity}
use Rattle.shapes.specs.Shapes.{types_in}
use Rattle.rules.specs.Bodies.{patterns_from}
use Rattle.rules.proofs.Laying.{rule_is, rule_read_lem}
use Rattle.typing.specs.Fits.{list_read, scope_read, Agree}
use Rattle.evaluation.specs.Envs.{env_in, EnvFits}
use Rattle.matching.specs.Outs.{open_from}
use Rattle.actions.proofs.Worked.{Alike, Judged, judged_same, guarded-same}
use Rattle.actions.proofs.Precise.{env_fits}
use Rattle.std.specs.Prelude.{Result}
use Rattle.model.specs.declared.Fault.{Fault}
use Rattle.trying.specs.Views.{view_env, judge_of}
use Rattle.trying.specs.Working.{AtGuard, Ruled, judged_as}

-- alike environments judge a rule alike
pub judge_same : (en en' : Env) → Alike en en' → (full : List ℕ) (r : Rule) → Judged en.scope r → (k : ℕ) → judge_of en full r k ≡ judge_of en' full r k
unfolding judge_of
judge_same en en' h full r j k = ap (attempt (open_from full 0 r.outs)) (guarded-same en en' h r j k)

module _ (a : Arity) (ins vars b : List ℕ) (w : Ruled a ins vars b) where
  abbrev r : Rule
  r = rule_read (read_rule a.ins a.outs a.vars b)

  -- the input patterns that are read are the rule's
  pub ins_is : list_read (patterns_from false a.ins 0 b) ≡ r.ins
  unfolding list_read rule_read rule_is
  ins_is = rw (w.laid.ins.read, rule_read_lem w.laid)

  module _ (types : List ℕ) (h : Agree (scope_in types) (scope_read (types_in ins a.ins) (types_in vars a.vars) (patterns_from false a.ins 0 b))) where
    pub judged_in : Judged (scope_in types) r
    judged_in = judged_same (scope_in types) _ h r w.judged

    pub fits_in_lem : (vals : List ℤ) → ((i : ℕ) → mag (get_or vals i (pos 0)) ≤ 2 ^ 31) → EnvFits vals types
    unfolding scope_read scope_of
    fits_in_lem vals small =
        env_fits (record { ins = types_in ins a.ins; outs = []; vars = types_in vars a.vars }) r vals types w.good_ins w.good_vars
        (subst (λ (ps : List Pattern). Agree (scope_in types) (record { ins = matched_types (types_in ins a.ins) ps; vars = types_in vars a.vars })) ins_is h) small

    pub at_guard : (at : ℕ) → at ≡ w.parts.guard → AtGuard a b at types
    at_guard at e = record {
      work = record { parts = w.parts; outs = w.few_outs; vars = w.few_vars; laid = w.laid; kept = w.kept; judged = judged_in };
      guard = e;
    }

    pub alike : (vals : List ℤ) → Alike (env_in vals types) (view_env (types_in ins a.ins) (types_in vars a.vars) vals r)
    unfolding view_env env_in scope_read
    alike vals = record {
      scope = subst (λ (ps : List Pattern). Agree (scope_in types) (record { ins = matched_types (types_in ins a.ins) ps; vars = types_in vars a.vars })) ins_is h;
      ins = λ i e. refl;
      vars = λ i e. refl;
    }

    pub settled_as : {q : Result Bool Fault} (full : List ℕ) (vals : List ℤ) → q ≡ judged_as (judge_of (env_in vals types) full r 0)
        → q ≡ judged_as (judge_of (view_env (types_in ins a.ins) (types_in vars a.vars) vals r) full r 0)
    unfolding env_in
    settled_as full vals e = e ∙ ap judged_as (judge_same (env_in vals types) _ (alike vals) full r judged_in 0)
