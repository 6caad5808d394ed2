use mathlib.Core.Path.{sym, ap, ◌∙◌}
use native.Mathlib.Omega.{arith}
use Rattle.types.specs.Scopes.{scope_in}
use Rattle.rules.proofs.Ends.{part_is}
use Rattle.typing.specs.Fits.{fitting_of}
use Rattle.typing.proofs.Scoping.{exp_there, part_typed, part_ill, part_inside, guard_typed, guard_ill}
use Rattle.typing.proofs.guard_fits.Goals as goal

pub slice_bounds-type_of-count : goal.slice_bounds-type_of-count
slice_bounds-type_of-count c = omega (arith, exp_there c.args.b.now c.args.at c.requires)

pub slice_bounds-type_of-start : goal.slice_bounds-type_of-start
slice_bounds-type_of-start c = omega (arith, exp_there c.args.b.now c.args.at c.requires)

pub overflow_add-result : goal.overflow_add-result
overflow_add-result c =
    let a = c.args in
    record { fits = omega (arith, part_inside (scope_in a.types.now) a.b.now _ a.at (part_is a.b.now a.at) c.requires (sym c.in-Err.is ∙ c.type_of.ensures), c.well_formed.0.0) }

pub returns-in-Ok : goal.returns-in-Ok
returns-in-Ok c =
    let a = c.args in
    c.fit_if.ensures
    ∙ ap fitting_of (guard_typed a.at _ _ _ (part_typed (scope_in a.types.now) a.b.now _ a.at (part_is a.b.now a.at) c.requires (sym c.in-Ok.is ∙ c.type_of.ensures)) c.is_bool.ensures)

pub returns-in-Err : goal.returns-in-Err
returns-in-Err c =
    let a = c.args in
    guard_ill a.at _ _ (part_ill (scope_in a.types.now) a.b.now _ a.at (part_is a.b.now a.at) c.requires (sym c.in-Err.is ∙ c.type_of.ensures))
