use mathlib.Core.Path.{refl, sym, ◌∙◌}
use native.Mathlib.Omega.{arith}
use Rattle.rules.proofs.Ends.{action_inside, sent_there, sent_skip, bare_skip}
use Rattle.rules.proofs.skip_action.Goals as goal

pub bounds-b-at : goal.bounds-b-at
bounds-b-at c = action_inside c.args.b.now c.args.at _ c.requires refl

pub overflow_add-at : goal.overflow_add-at
overflow_add-at c = record { fits = omega (arith, action_inside c.args.b.now c.args.at _ c.requires refl, c.well_formed.0.0) }

pub skip-requires : goal.skip-requires
skip-requires c = sent_there _ c.args.at _ c.requires refl (sym c.holds_expression.ensures ∙ c.if-holds_expression.true)

pub returns-then-holds_expression : goal.returns-then-holds_expression
returns-then-holds_expression c = c.skip.ensures ∙ sent_skip _ c.args.at _ c.requires refl (sym c.holds_expression.ensures ∙ c.if-holds_expression.true)

pub overflow_add-result : goal.overflow_add-result
overflow_add-result c = record { fits = omega (arith, action_inside c.args.b.now c.args.at _ c.requires refl, c.well_formed.0.0) }

pub returns : goal.returns
returns c = bare_skip _ c.args.at _ c.requires refl (sym c.holds_expression.ensures ∙ c.if-holds_expression.false)
