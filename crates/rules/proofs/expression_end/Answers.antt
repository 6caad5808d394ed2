use Rattle.rules.proofs.Ends.{exp_none}
use Rattle.rules.proofs.expression_end.Goals as goal

pub returns-then-b-at : goal.returns-then-b-at
returns-then-b-at c = exp_none c.args.b.now c.args.at c.if-b-at.true
