use Rattle.expressions.proofs.Depths.{limits_whole}
use Rattle.expressions.proofs.limits.Goals as goal

pub returns : goal.returns
returns c = rw (c.is_some.ensures, c.limits_at.ensures) (limits_whole c.args.s.now)
