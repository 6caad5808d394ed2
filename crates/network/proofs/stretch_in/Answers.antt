use native.Mathlib.Omega.{arith}
use Rattle.network.specs.Answers.{Found}
use Rattle.network.proofs.Bodies.{no_box, no_rule_lem, stands}
use Rattle.network.proofs.stretch_in.Goals as goal

pub returns-then-net-from : goal.returns-then-net-from
unfolding Found
returns-then-net-from c = no_box _ _ _ c.args.net.now.tabled c.args.b.0 c.args.r.0 (omega arith)

pub returns-then-rules_of-from : goal.returns-then-rules_of-from
unfolding Found
returns-then-rules_of-from c = no_rule_lem _ _ _ c.args.net.now.tabled c.args.b.0 c.args.r.0 (omega arith) (omega arith)

pub returns : goal.returns
unfolding Found
returns c = stands _ _ _ c.args.net.now.tabled c.args.b.0 c.args.r.0 (omega arith) (omega arith) _ _ c.rule_at-at.ensures.0 c.two_at.ensures.0
