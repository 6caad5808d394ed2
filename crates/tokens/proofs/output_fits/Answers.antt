use Rattle.tokens.proofs.Laws.{output_is}
use Rattle.tokens.proofs.output_fits.Goals as goal

pub returns : goal.returns
returns c = output_is _ _ _ _ _ c.two_at.ensures.0 c.room_fits.ensures
