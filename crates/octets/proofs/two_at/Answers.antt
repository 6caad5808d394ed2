use native.Mathlib.Omega.{arith}
use Rattle.octets.proofs.Laws.{two_read}
use Rattle.octets.proofs.two_at.Goals as goal

pub returns : goal.returns
returns c = (omega (arith, two_read c.args.s.now _ c.args.at c.behind-s.ensures), omega arith)
