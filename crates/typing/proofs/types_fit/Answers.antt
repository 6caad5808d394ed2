use mathlib.Core.Path.{sym, ap, ◌∙◌}
use Rattle.std.proofs.lemmas.Result.{err_from_is_err_and}
use Rattle.expressions.specs.Reading.{is_read}
use Rattle.rules.proofs.Laying.{laid}
use Rattle.typing.specs.Fits.{fitting_of}
use Rattle.typing.proofs.Patterns.{inputs_too}
use Rattle.typing.proofs.Wholes.{also_fail, also_on, rule_fits_lem, ins_read, vars_read, vars_fit, expressions_same}
use Rattle.typing.proofs.types_fit.Goals as goal

pub patterns_fit-requires-clause-b_value : goal.patterns_fit-requires-clause-b_value
patterns_fit-requires-clause-b_value c =
    let a = c.args in
    ins_read a.a a.b.now a.p (laid a.a a.b.now a.p c.requires.b_value)

pub returns-in_err-patterns_fit : goal.returns-in_err-patterns_fit
returns-in_err-patterns_fit c =
    let a = c.args in
    let p = err_from_is_err_and c.from_residual.result c.from_residual.ensures.1 in
    rw (p.1, p.2) (
    also_fail _ _ _ (sym c.in_err-patterns_fit.was ∙ c.patterns_fit.ensures)
    ∙ ap fitting_of (sym (rule_fits_lem a.ins.now a.outs.now a.vars.now a.b.now a.a a.p (laid a.a a.b.now a.p c.requires.b_value))))

pub patterns_fit-requires-2-clause-b_value : goal.patterns_fit-requires-2-clause-b_value
patterns_fit-requires-2-clause-b_value c =
    let a = c.args in
    let there = vars_read a.a a.b.now a.p (laid a.a a.b.now a.p c.requires.b_value) in
    ap is_read (inputs_too a.a.vars a.p.vars a.b.now there) ∙ there

pub returns-in_err-patterns_fit-2 : goal.returns-in_err-patterns_fit-2
returns-in_err-patterns_fit-2 c =
    let a = c.args in
    let x = laid a.a a.b.now a.p c.requires.b_value in
    let p = err_from_is_err_and c.from_residual-in_err-patterns_fit-2.result c.from_residual-in_err-patterns_fit-2.ensures.1 in
    rw (p.1, p.2) (
    also_fail _ _ _ (sym c.in_err-patterns_fit-2.was ∙ c.patterns_fit-2.ensures ∙ ap fitting_of (vars_fit a.vars.now a.b.now a.a a.p x))
    ∙ ap fitting_of (
    sym (also_on _ _ (sym c.in_ok-patterns_fit.was ∙ c.patterns_fit.ensures))
    ∙ sym (rule_fits_lem a.ins.now a.outs.now a.vars.now a.b.now a.a a.p x)))

pub scope-types-requires-clause-b_value : goal.scope-types-requires-clause-b_value
scope-types-requires-clause-b_value c =
    let a = c.args in
    ins_read a.a a.b.now a.p (laid a.a a.b.now a.p c.requires.b_value)

pub returns : goal.returns
returns c =
    let a = c.args in
    let x = laid a.a a.b.now a.p c.requires.b_value in
    c.expressions_fit.ensures
    ∙ ap fitting_of (
    expressions_same _ _ c.scope-types.ensures a.a a.p a.outs.now a.vars.now a.b.now
    ∙ sym (also_on _ _ (sym c.in_ok-patterns_fit-2.was ∙ c.patterns_fit-2.ensures ∙ ap fitting_of (vars_fit a.vars.now a.b.now a.a a.p x)))
    ∙ sym (also_on _ _ (sym c.in_ok-patterns_fit.was ∙ c.patterns_fit.ensures))
    ∙ sym (rule_fits_lem a.ins.now a.outs.now a.vars.now a.b.now a.a a.p x))
