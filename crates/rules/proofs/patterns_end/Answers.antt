use Rattle.std.proofs.Common.{rules}
use Rattle.model.specs.Rules.{read_pattern}
use Rattle.rules.specs.Bodies.{pattern_codes, patterns_from}
use Rattle.rules.proofs.Folding.{fold_ends}
use Rattle.rules.proofs.patterns_end.Goals as goal

pub returns : goal.returns
unfolding patterns_from
returns c = fold_ends (read_pattern (pattern_codes c.args.var)) c.args.b.now _ _ _ _ _ _ _ c.try_fold.ensures.ran (λ at x v q k. search rules)
