use mir.Facts.{to_z-of_z}
use Rattle.model.specs.Values.{wrap}
use Rattle.values.proofs.Machine.{back}
use Rattle.model.proofs.Wrapping.{pattern_lt}
use Rattle.values.proofs.wrap.Goals as goal

pub read_back-requires-clause-n_bound : goal.read_back-requires-clause-n_bound
read_back-requires-clause-n_bound c = rw (c.pattern.ensures, to_z-of_z c.ranges.x) (pattern_lt c.args.t c.args.x)

pub returns : goal.returns
unfolding wrap
returns c = rw (back c.read_back.type_inv, c.read_back.ensures, c.pattern.ensures, to_z-of_z c.ranges.x)
