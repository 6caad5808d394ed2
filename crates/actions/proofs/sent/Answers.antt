use mathlib.Core.Path.{◌∙◌}
use native.Mathlib.Omega.{arith}
use Rattle.values.proofs.Machine.{back}
use Rattle.typing.proofs.Actions.{holds_one, holds_five, holds_none}
use Rattle.actions.proofs.Acting.{held_limits, held_typed, sends_none, sends_held, sends_bare}
use Rattle.actions.proofs.sent.Goals as goal

pub returns-in-0 : goal.returns-in-0
returns-in-0 c = sends_none c.args.b.now c.args.at _ c.byte_at-c.ensures _ c.in-0.is

pub number-requires : goal.number-requires
number-requires c =
    let h = c.byte_at-c.ensures in
    let e = (holds_one _ c.in-1.is).0 in
    record { b_value = held_limits c.args.b.now c.args.at _ h e c.requires.b_value; b_value_2 = held_typed c.args.b.now c.args.at _ h e _ c.requires.b_value_2 }

pub returns-in-1 : goal.returns-in-1
returns-in-1 c = sends_held c.args.b.now c.args.at _ c.byte_at-c.ensures _ 0 (holds_one _ c.in-1.is) (back c.number.type_inv ∙ c.number.ensures)

pub number-requires-in-5 : goal.number-requires-in-5
number-requires-in-5 c =
    let h = c.byte_at-c.ensures in
    let e = (holds_five _ c.in-5.is).0 in
    record { b_value = held_limits c.args.b.now c.args.at _ h e c.requires.b_value; b_value_2 = held_typed c.args.b.now c.args.at _ h e _ c.requires.b_value_2 }

pub returns-in-5 : goal.returns-in-5
returns-in-5 c = sends_held c.args.b.now c.args.at _ c.byte_at-c.ensures _ 3 (holds_five _ c.in-5.is) (back c.number-in-5.type_inv ∙ c.number-in-5.ensures)

pub returns-in_default : goal.returns-in_default
returns-in_default c = sends_bare c.args.b.now c.args.at _ c.byte_at-c.ensures _ (omega arith) (holds_none _ (omega arith) (omega arith))
