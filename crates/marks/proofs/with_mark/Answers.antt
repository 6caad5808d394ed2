use Rattle.marks.proofs.Laws.{set_form}
use Rattle.marks.proofs.with_mark.Goals as goal

pub returns : goal.returns
returns c = set_form c.args.set c.args.k.0 c.requires.0 c.requires.1
