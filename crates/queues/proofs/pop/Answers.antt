use Rattle.queues.proofs.Stores.{pop_stores}
use Rattle.queues.proofs.pop.Goals as goal

pub returns : goal.returns
returns c =
    pop_stores c.args.s.now _ _ c.from-n.ensures c.move_down.ensures
