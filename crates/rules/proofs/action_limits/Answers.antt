use Rattle.std.proofs.Common.{rules, sym, ◌∙◌}
use Rattle.rules.proofs.Keeping.{sent_none, sent_bare, sent_sent}
use Rattle.rules.proofs.action_limits.Goals as goal

pub returns-in-Some : goal.returns-in-Some
returns-in-Some c =
    sent_sent c.args.b.now c.args.at c.in-Some.c.now (search rules) _ (sym c.holds_expression.ensures ∙ c.if-holds_expression.true) c.expression_limits.ensures

pub returns-in_default : goal.returns-in_default
returns-in_default c = sent_bare c.args.b.now c.args.at c.in-Some.c.now (search rules) (sym c.holds_expression.ensures ∙ c.if-holds_expression.false)

pub returns-in_default-2 : goal.returns-in_default-2
returns-in_default-2 c = sent_none c.args.b.now c.args.at (let none = rw c.in_default.is at c.get.ensures.lookup in search rules)
