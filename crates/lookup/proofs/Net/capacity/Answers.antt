use Rattle.lookup.proofs.Laws.{capacity_read}
use Rattle.lookup.proofs.Net.capacity.Goals as goal

pub returns : goal.returns
returns c =
    (capacity_read _ _ _ c.args.self.now.tabled _ _ _ c.requires c.from.ensures c.entry-at.ensures.0 _ _ c.byte_at.ensures c.from-2.ensures, rw c.from-2.ensures c.byte_at.type_inv)
