use Rattle.rules.proofs.Keeping.{limits_absent}
use Rattle.rules.proofs.expression_limits.Goals as goal

pub returns-then-b-at : goal.returns-then-b-at
returns-then-b-at c = limits_absent c.args.b.now c.args.at c.if-b-at.true
