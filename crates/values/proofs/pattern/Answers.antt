use mir.Facts.{to_z-of_z}
use Rattle.model.specs.Values.{pattern}
use Rattle.values.proofs.Machine.{low_bits}
use Rattle.values.proofs.pattern.Goals as goal

pub returns : goal.returns
unfolding pattern
returns c = rw (c.cast_unsigned.ensures, c.ones.ensures, to_z-of_z c.ranges.x) (low_bits c.args.t.p c.args.x c.ranges.x c.requires)
