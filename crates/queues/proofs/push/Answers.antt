use Rattle.queues.proofs.Stores.{push_stores}
use Rattle.queues.proofs.push.Goals as goal

pub returns : goal.returns
returns c =
    let a = c.args in
    push_stores a.s.now _ a.t _ c.from-n.ensures c.put_token.ensures
