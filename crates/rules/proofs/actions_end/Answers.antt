use Rattle.std.proofs.Common.{rules}
use Rattle.model.specs.Rules.{read_action}
use Rattle.rules.specs.Bodies.{action_codes, actions_from}
use Rattle.rules.proofs.Folding.{fold_ends}
use Rattle.rules.proofs.actions_end.Goals as goal

pub returns : goal.returns
unfolding actions_from
returns c = fold_ends (read_action (action_codes c.args.var)) c.args.b.now _ _ _ _ _ _ _ c.try_fold.ensures.ran (λ at x v q k. search rules)
