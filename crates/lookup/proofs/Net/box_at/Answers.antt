use Rattle.lookup.proofs.Laws.{box_read}
use Rattle.lookup.proofs.Net.box_at.Goals as goal

pub returns : goal.returns
returns c = (box_read _ _ _ c.args.self.now.tabled _ _ _ c.requires c.from.ensures c.entry.ensures.0, c.entry.ensures.1)
