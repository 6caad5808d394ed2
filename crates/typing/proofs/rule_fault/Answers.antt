use mathlib.Core.Path.{sym, ◌∙◌}
use Rattle.std.proofs.Common.{rules}
use Rattle.std.proofs.lemmas.Result.{err_from_is_err_and}
use Rattle.model.specs.declared.Reason.TheVariants.{Limits, Types}
use Rattle.typing.proofs.Faults.{where_is, fault_form, fault_limits, fault_types, kept}
use Rattle.typing.proofs.rule_fault.Goals as goal

pub returns-in_default : goal.returns-in_default
returns-in_default c = fault_form _ _ _ _ _ _ _ (sym c.in_default.is ∙ c.parts_of.ensures) c.read_to.ensures

pub returns-in_err-map_err : goal.returns-in_err-map_err
returns-in_err-map_err c =
    let p = err_from_is_err_and c.from_residual.result c.from_residual.ensures.1 in
    let l = sym (where_is Limits _ _ _ _ c.limits.ensures (λ k x h. search rules) c.map_err.ensures.cases) ∙ c.in_err-map_err.was in
    rw (p.1, p.2) (fault_limits _ _ _ _ _ _ _ (sym c.in-Some.is ∙ c.parts_of.ensures) _ l)

pub types_fit-requires-clause-kept : goal.types_fit-requires-clause-kept
types_fit-requires-clause-kept c =
    let e = sym c.in-Some.is ∙ c.parts_of.ensures in
    let l = sym (where_is Limits _ _ _ _ c.limits.ensures (λ k x h. search rules) c.map_err.ensures.cases) ∙ c.in_ok-map_err.was in
    kept c.args.ins.now c.args.outs.now c.args.vars.now _ _ _ _ e l

pub returns : goal.returns
returns c =
    let e = sym c.in-Some.is ∙ c.parts_of.ensures in
    let l = sym (where_is Limits _ _ _ _ c.limits.ensures (λ k x h. search rules) c.map_err.ensures.cases) ∙ c.in_ok-map_err.was in
    where_is Types _ _ _ _ c.types_fit.ensures (λ k x h. search rules) c.map_err-2.ensures.cases ∙ fault_types c.args.ins.now c.args.outs.now c.args.vars.now _ _ _ _ e l
