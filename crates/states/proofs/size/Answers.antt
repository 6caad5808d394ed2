use Rattle.states.proofs.Sizes.{size_is}
use Rattle.states.proofs.size.Goals as goal

pub returns : goal.returns
returns c = let plan = c.args.plan.now in size_is _ _ _ _ plan.net.tabled plan.placed _ c.entry.ensures.0
