use mathlib.Core.Path.{sym, ◌∙◌}
use mir.Facts.{to_z-of_z}
use Rattle.values.proofs.Machine.{back}
use Rattle.actions.proofs.Acting.{held_limits, held_typed, keeps_new, keeps_old}
use Rattle.actions.proofs.kept_value.Goals as goal

pub returns-then-not-holds_expression : goal.returns-then-not-holds_expression
returns-then-not-holds_expression c =
    let e = sym c.holds_expression.ensures ∙ c.if-not-holds_expression.true in
    to_z-of_z c.ranges.old ∙ keeps_old c.args.b.now c.args.at _ c.byte_at-c.ensures _ _ e

pub number-requires : goal.number-requires
number-requires c =
    let h = c.byte_at-c.ensures in
    let e = sym c.holds_expression.ensures ∙ c.if-not-holds_expression.false in
    record { b_value = held_limits c.args.b.now c.args.at _ h e c.requires.b_value; b_value_2 = held_typed c.args.b.now c.args.at _ h e _ c.requires.b_value_2 }

pub returns : goal.returns
returns c =
    let e = sym c.holds_expression.ensures ∙ c.if-not-holds_expression.false in
    keeps_new c.args.b.now c.args.at _ c.byte_at-c.ensures _ c.args.old e (back c.number.type_inv ∙ c.number.ensures)
