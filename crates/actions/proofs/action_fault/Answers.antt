use mathlib.Core.Path.{sym, ◌∙◌}
use Rattle.std.proofs.lemmas.Result.{err_from_is_err_and}
use Rattle.actions.specs.Acts.{fault_in}
use Rattle.actions.proofs.Acting.{held_limits, held_typed, no_fault, held_fault}
use Rattle.actions.proofs.action_fault.Goals as goal

pub returns-then-not-holds_expression : goal.returns-then-not-holds_expression
returns-then-not-holds_expression c =
    no_fault c.args.b.now c.args.at _ c.byte_at-c.ensures _ (sym c.holds_expression.ensures ∙ c.if-not-holds_expression.true)

pub value-requires : goal.value-requires
value-requires c =
    let h = c.byte_at-c.ensures in
    let e = sym c.holds_expression.ensures ∙ c.if-not-holds_expression.false in
    record { b_value = held_limits c.args.b.now c.args.at _ h e c.requires.b_value; b_value_2 = held_typed c.args.b.now c.args.at _ h e _ c.requires.b_value_2 }

pub returns-in_err-value : goal.returns-in_err-value
unfolding fault_in
returns-in_err-value c =
    let e = sym c.holds_expression.ensures ∙ c.if-not-holds_expression.false in
    let w = err_from_is_err_and c.from_residual.result c.from_residual.ensures.1 in
    rw (w.1, w.2) (held_fault c.args.b.now c.args.at _ c.byte_at-c.ensures _ e (sym c.in_err-value.was ∙ c.value.ensures))

pub returns : goal.returns
unfolding fault_in
returns c =
    let e = sym c.holds_expression.ensures ∙ c.if-not-holds_expression.false in
    held_fault c.args.b.now c.args.at _ c.byte_at-c.ensures _ e (sym c.in_ok-value.was ∙ c.value.ensures)
