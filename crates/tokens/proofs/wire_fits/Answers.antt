use Rattle.tokens.proofs.Laws.{wire_is}
use Rattle.tokens.proofs.wire_fits.Goals as goal

pub returns : goal.returns
returns c = wire_is _ _ _ _ _ c.count.ensures.0 c.room_fits.ensures
