use native.Mathlib.Omega.{arith}
use Rattle.octets.proofs.Laws.{four_read}
use Rattle.octets.proofs.four_at.Goals as goal

pub returns : goal.returns
returns c = (omega (arith, four_read c.args.s.now _ c.args.at c.behind-s.ensures), omega arith)
