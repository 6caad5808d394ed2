use Rattle.lookup.proofs.Laws.{input_read}
use Rattle.lookup.proofs.Net.input_wire.Goals as goal

pub returns : goal.returns
returns c = input_read _ _ _ c.args.self.now.tabled _ _ _ _ c.requires.boxes_le_k c.requires.k_bound c.from.ensures c.entry-at.ensures.0 c.byte_at.ensures
