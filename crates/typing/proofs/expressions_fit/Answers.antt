use mathlib.Core.Path.{sym, ap, ◌∙◌}
use mathlib.Core.List.{List}
use Rattle.std.proofs.lemmas.Result.{err_from_is_err_and}
use Rattle.model.specs.Expressions.{Read}
use Rattle.model.specs.Rules.{Action, actions_fit}
use Rattle.types.specs.Scopes.{scope_in}
use Rattle.shapes.specs.Shapes.{types_in}
use Rattle.rules.specs.Bodies.{limits_of}
use Rattle.typing.specs.Fits.{fitting_of, list_read, expressions_fit}
use Rattle.typing.proofs.Actions.{outputs_too, limits_read_lem}
use Rattle.typing.proofs.Wholes.{also_fail, also_on}
use Rattle.typing.proofs.expressions_fit.Goals as goal

pub returns-in_err-guard_fits : goal.returns-in_err-guard_fits
unfolding expressions_fit
returns-in_err-guard_fits c =
    let p = err_from_is_err_and c.from_residual.result c.from_residual.ensures.1 in
    rw (p.1, p.2) (also_fail _ _ _ (sym c.in_err-guard_fits.was ∙ c.guard_fits.ensures))

pub returns-in_err-actions_fit : goal.returns-in_err-actions_fit
unfolding expressions_fit
returns-in_err-actions_fit c =
    let p = err_from_is_err_and c.from_residual-in_err-actions_fit.result c.from_residual-in_err-actions_fit.ensures.1 in
    rw (p.1, p.2) (
    also_fail _ _ _ (sym c.in_err-actions_fit.was ∙ c.actions_fit.ensures)
    ∙ ap fitting_of (sym (also_on _ _ (sym c.in_ok-guard_fits.was ∙ c.guard_fits.ensures))))

pub actions_fit-requires-2-clause-b_value : goal.actions_fit-requires-2-clause-b_value
actions_fit-requires-2-clause-b_value c =
    let a = c.args in
    let k = c.requires.kept.sets in
    ap limits_of (outputs_too a.a.vars a.p.sets a.b.now (limits_read_lem _ k)) ∙ k

pub returns : goal.returns
unfolding expressions_fit
returns c =
    let a = c.args in
    let same = outputs_too a.a.vars a.p.sets a.b.now (limits_read_lem _ c.requires.kept.sets) in
    c.actions_fit-2.ensures
    ∙ ap fitting_of (
    ap (λ (r : Read (List Action)). actions_fit (scope_in a.types.now) a.p.sets (types_in a.vars.now a.a.vars) (list_read r)) same
    ∙ sym (also_on _ _ (sym c.in_ok-actions_fit.was ∙ c.actions_fit.ensures))
    ∙ sym (also_on _ _ (sym c.in_ok-guard_fits.was ∙ c.guard_fits.ensures)))
