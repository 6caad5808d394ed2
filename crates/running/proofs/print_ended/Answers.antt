use Rattle.printing.proofs.Texts.{then}
use Rattle.running.proofs.print_ended.Goals as goal

pub returns : goal.returns
returns c = then c.outcome.ensures c.state.ensures
