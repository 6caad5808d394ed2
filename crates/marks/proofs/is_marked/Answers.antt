use Rattle.marks.proofs.Laws.{test_form}
use Rattle.marks.proofs.is_marked.Goals as goal

pub returns : goal.returns
returns c = test_form c.args.set c.args.k.0
