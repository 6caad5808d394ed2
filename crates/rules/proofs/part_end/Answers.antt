use Rattle.rules.proofs.Stops.{part_pattern, part_guard, part_action}
use Rattle.rules.proofs.part_end.Goals as goal

pub returns-then-k-guard : goal.returns-then-k-guard
returns-then-k-guard c = part_pattern _ _ _ _ c.if-k-guard.true c.pattern_end.ensures

pub returns-then-k-guard-2 : goal.returns-then-k-guard-2
returns-then-k-guard-2 c = part_guard _ _ _ _ c.if-k-guard-2.true c.expression_end.ensures

pub returns : goal.returns
returns c = part_action _ _ _ _ c.if-k-guard.false c.if-k-guard-2.false c.action_end.ensures
