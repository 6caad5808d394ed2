use Rattle.std.proofs.Common.{rules, sym, ◌∙◌}
use Rattle.rules.specs.Bodies.{action_codes}
use Rattle.rules.proofs.Ends.{action_none, action_unknown, action_sent, action_bare}
use Rattle.rules.proofs.action_end.Goals as goal

pub returns-in_err-c : goal.returns-in_err-c
returns-in_err-c c = c.from_residual.ensures ∙ action_none (action_codes c.args.var) c.args.b.now c.args.at (search rules)

pub returns-then-not-action_known : goal.returns-then-not-action_known
returns-then-not-action_known c =
    action_unknown (action_codes c.args.var) c.args.b.now c.args.at c.in_ok-c.field-0.now (search rules) (search rules) (sym c.action_known.ensures ∙ c.if-not-action_known.true)

pub returns-then-holds_expression : goal.returns-then-holds_expression
returns-then-holds_expression c =
    let known = sym c.action_known.ensures ∙ c.if-not-action_known.false in
    c.expression_end.ensures
    ∙ action_sent (action_codes c.args.var) c.args.b.now c.args.at c.in_ok-c.field-0.now (search rules) (search rules) known (sym c.holds_expression.ensures ∙ c.if-holds_expression.true)

pub returns : goal.returns
returns c =
    let known = sym c.action_known.ensures ∙ c.if-not-action_known.false in
    action_bare (action_codes c.args.var) c.args.b.now c.args.at c.in_ok-c.field-0.now (search rules) (search rules) known (sym c.holds_expression.ensures ∙ c.if-holds_expression.false)
