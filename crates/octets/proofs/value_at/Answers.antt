use Rattle.octets.proofs.Laws.{value_read}
use Rattle.octets.proofs.value_at.Goals as goal

pub returns : goal.returns
returns c = let n = c.four_at-n.ensures in value_read _ _ _ _ _ n.0 n.1 c.cast_signed.ensures c.from.ensures
