use borrow.Author.Rules.{rules}
use Rattle.model.specs.NetworkFile.{variable_start}
use Rattle.tokens.proofs.variable_start.Goals as goal

pub returns : goal.returns
unfolding variable_start
returns c = search rules
