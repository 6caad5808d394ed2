-- What is wrong with a rule, and its number.
-- Assumes nothing.
use mathlib.Core.Path.{◌≡◌, refl, sym, ap, ◌∙◌}
use mathlib.Core.Bool.{true, false}
use mathlib.Core.List.{List}
use Prim.Native.Nat.{ℕ, ◌*◌}
use lib.Dec.{leb, ltb}
use lib.ListN.{drop, length}
use Rattle.model.specs.Expressions.{expression, type_at}
use Rattle.model.specs.Rules.{Shape, read_rule, rule_read, is_whole, Fit, fits, fails, fit_if, rule_fits, is_fit}
use Rattle.model.specs.NetworkFile.{fault_of, rule_in, rule_form, rule_limits, rule_types}
use Rattle.model.proofs.Tests.{and₅}
use Rattle.expressions.specs.Reading.{limits_read}
use Rattle.model.specs.declared.Reason.{Reason}
use Rattle.model.specs.declared.Reason.TheVariants as reason
use Rattle.model.specs.Reasons.{reason_number}
use Rattle.shapes.specs.declared.Arity.{Arity}
use Rattle.shapes.specs.Shapes.{shape_in, types_in}
use Rattle.rules.specs.declared.Parts.{Parts}
use Rattle.rules.specs.Bodies.{actions_from, limits_of, layout_of, read_to}
use Rattle.rules.proofs.Laying.{is_laid, form_is, laid, rule_limits_lem}
use Rattle.std.specs.Prelude.{Result, Ok, Err, MatchResult, IsErrAnd, ⊤, Some, None}
use Rattle.std.proofs.lemmas.Result.{err_from_is_err_and}
use Rattle.typing.specs.declared.RuleFault.{RuleFault}
use Rattle.typing.specs.Fits.{fitting_of, Kept}
use Rattle.typing.specs.Limits.{rule_keeps}
use Rattle.typing.specs.RuleFault.{refused, arity_of, form_fits, first_of, rule_fault, number_of}
use Rattle.typing.proofs.Patterns.{length_types}
use Rattle.typing.proofs.Keeping.{fit-if, keeps_test}

-- refused for a reason where it fails
unfoldable pub refused_where : Reason → Fit → Result ⊤ RuleFault
refused_where y fits = Ok tt
refused_where y (fails k) = refused y k

-- what `map_err` makes of such an answer, by a closure that puts the reason beside the offset
pub where_is : (y : Reason) (f : Fit) (q : Result ⊤ ℕ) (r : Result ⊤ RuleFault) (Q : ℕ → RuleFault → Type 0) → q ≡ fitting_of f
    → ((k : ℕ) (x : RuleFault) → Q k x → x ≡ record { reason = y; at = k })
    → MatchResult q (λ x. r ≡ Ok x) (λ k. IsErrAnd r (Q k)) → r ≡ refused_where y f
unfolding refused_where fitting_of
where_is y f q r Q e g h = go f (rw e at h)
  where
    go : (f : Fit) → MatchResult (fitting_of f) (λ x. r ≡ Ok x) (λ k. IsErrAnd r (Q k)) → r ≡ refused_where y f
    go fits h = h
    go (fails k) h = let p = err_from_is_err_and r h in p.1 ∙ ap Err (g k p.0 p.2)

-- it fits where nothing is refused
pub where_none : (y : Reason) (f : Fit) → refused_where y f ≡ Ok tt → f ≡ fits
unfolding refused_where
where_none y fits e = refl
where_none y (fails k) e = cc

-- ── the ways out ─────────────────────────────────────────────────────────────────────────────

module _ (ins outs vars b : List ℕ) (a : Arity) (seen : ℕ) where
  abbrev Limits : Fit
  Limits = rule_keeps seen b (rule_read (read_rule a.ins a.outs a.vars b))

  abbrev Types : Fit
  Types = rule_fits (shape_in ins outs vars a) (rule_read (read_rule a.ins a.outs a.vars b))

  fault_is : rule_fault (shape_in ins outs vars a) seen b ≡ first_of (fit_if (is_whole (read_rule a.ins a.outs a.vars b) b) (read_to a b)) Limits Types
  unfolding rule_fault form_fits arity_of rule_form rule_in shape_in types_in
  fault_is = rw (length_types a.ins (λ k. type_at ins (2 * k)), length_types a.outs (λ k. type_at outs (2 * k)), length_types a.vars (λ k. type_at vars (2 * k)))

  pub fault_form : (k : ℕ) → None ≡ layout_of a b → k ≡ read_to a b → refused reason.Form k ≡ rule_fault (shape_in ins outs vars a) seen b
  unfolding first_of fit_if is_laid
  fault_form k e q = let w : is_whole (read_rule a.ins a.outs a.vars b) b ≡ false = sym (form_is b a) ∙ ap is_laid (sym e) in ap (refused reason.Form) q ∙ sym (fault_is ∙ rw w)

  module _ (p : Parts) (e : Some p ≡ layout_of a b) where
    whole : rule_fault (shape_in ins outs vars a) seen b ≡ first_of fits Limits Types
    unfolding is_laid fit_if
    whole = let w : is_whole (read_rule a.ins a.outs a.vars b) b ≡ true = sym (form_is b a) ∙ ap is_laid (sym e) in fault_is ∙ rw w

    first_limits : (f g : Fit) (x : RuleFault) → refused_where reason.Limits f ≡ Err x → first_of fits f g ≡ Err x
    unfolding first_of refused_where
    first_limits fits g x e = cc
    first_limits (fails k) g x e = e

    pub fault_limits : (x : RuleFault) → refused_where reason.Limits Limits ≡ Err x → Err x ≡ rule_fault (shape_in ins outs vars a) seen b
    fault_limits x l = sym (whole ∙ first_limits Limits Types x l)

    module _ (l : refused_where reason.Limits Limits ≡ Ok tt) where
      first_types : (f : Fit) → first_of fits fits f ≡ refused_where reason.Types f
      unfolding first_of refused_where
      first_types fits = refl
      first_types (fails k) = refl

      pub fault_types : refused_where reason.Types Types ≡ rule_fault (shape_in ins outs vars a) seen b
      fault_types = sym (whole ∙ rw (where_none reason.Limits Limits l) (first_types Types))

      -- its expressions keep the limits
      pub kept : Kept a p b
      unfolding is_fit
      kept =
          let w = and₅ (ltb seen 16) (leb (length b) 512) (limits_read (expression (drop p.guard b))) (limits_of (actions_from false a.outs p.outs b)) (limits_of (actions_from true a.vars p.sets b)) (sym (rule_limits_lem (laid a b p (sym e)) seen) ∙ sym (keeps_test seen b _) ∙ ap is_fit (where_none reason.Limits Limits l)) in
          record { guard = w.2; outs = w.3; sets = w.4 }

-- ── the number ───────────────────────────────────────────────────────────────────────────────

first_number : (f g h : Fit) → number_of (first_of f g h) ≡ fault_of (is_fit f) (is_fit g) (is_fit h)
unfolding number_of first_of fault_of is_fit reason_number
first_number (fails k) g h = refl
first_number fits (fails k) h = refl
first_number fits fits (fails k) = refl
first_number fits fits fits = refl

-- it is that of the model's form, limits and types
pub number_is : (sh : Shape) (seen : ℕ) (b : List ℕ) → number_of (rule_fault sh seen b) ≡ (let r = rule_read (rule_in sh b) in fault_of (rule_form sh b) (rule_limits seen b r) (rule_types sh r))
unfolding rule_fault form_fits rule_types
number_is sh seen b = first_number _ _ _ ∙ rw (fit-if (rule_form sh b) (read_to (arity_of sh) b), keeps_test seen b (rule_read (rule_in sh b)))
