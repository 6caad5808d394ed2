use Rattle.lookup.proofs.Laws.{type_read}
use Rattle.lookup.proofs.Net.wire_type.Goals as goal

pub returns : goal.returns
returns c = type_read _ _ _ c.args.self.now.tabled _ _ _ c.requires c.from.ensures c.entry-at.ensures.0 _ _ c.byte_at.ensures c.byte_at-2.ensures
