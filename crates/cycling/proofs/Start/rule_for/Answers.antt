use Rattle.cycling.proofs.Midway.{rule_box, rule_end}
use Rattle.cycling.proofs.Start.rule_for.Goals as goal

pub returns-then-i-boxes : goal.returns-then-i-boxes
returns-then-i-boxes c = rule_box _ _ _ _ c.from-i.ensures c.if-i-boxes.true

pub returns : goal.returns
returns c = rule_end _ _ _ _ c.from-i.ensures c.if-i-boxes.false
