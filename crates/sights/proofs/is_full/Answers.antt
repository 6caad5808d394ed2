use Rattle.sights.proofs.Sights.{full_read}
use Rattle.sights.proofs.is_full.Goals as goal

pub returns : goal.returns
returns c = full_read _ _ c.count.ensures.0
