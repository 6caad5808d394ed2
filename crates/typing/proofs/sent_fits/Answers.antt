use mathlib.Core.Path.{sym, ap, ◌∙◌}
use Prim.Native.Nat.{◌+◌}
use native.Mathlib.Omega.{arith}
use Rattle.types.specs.Scopes.{scope_in}
use Rattle.rules.proofs.Ends.{part_is}
use Rattle.typing.specs.Fits.{fitting_of}
use Rattle.typing.proofs.Scoping.{part_typed, part_ill, part_inside, sent_typed_lem, sent_ill}
use Rattle.typing.proofs.sent_fits.Goals as goal

pub overflow_add-result : goal.overflow_add-result
overflow_add-result c =
    let a = c.args in
    record { fits = omega (arith, part_inside (scope_in a.types.now) a.b.now _ (a.at + 1) (part_is a.b.now (a.at + 1)) c.requires.b_value (sym c.in-Err.is ∙ c.type_of.ensures), c.well_formed.0.0) }

pub returns-in-Ok : goal.returns-in-Ok
returns-in-Ok c =
    let a = c.args in
    c.fit_if.ensures
    ∙ ap fitting_of (sent_typed_lem (scope_in a.types.now) a.at a.tag a.t _ _ _ _ _ (part_typed (scope_in a.types.now) a.b.now _ (a.at + 1) (part_is a.b.now (a.at + 1)) c.requires.b_value (sym c.in-Ok.is ∙ c.type_of.ensures)) c.carried.ensures c.same_type.ensures c.tag_fits.ensures)

pub returns-in-Err : goal.returns-in-Err
returns-in-Err c =
    let a = c.args in
    sent_ill (scope_in a.types.now) a.at a.tag a.t _ _ (part_ill (scope_in a.types.now) a.b.now _ (a.at + 1) (part_is a.b.now (a.at + 1)) c.requires.b_value (sym c.in-Err.is ∙ c.type_of.ensures))
