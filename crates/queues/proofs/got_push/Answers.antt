use Rattle.queues.proofs.Stores.{got_stores}
use Rattle.queues.proofs.got_push.Goals as goal

pub returns : goal.returns
returns c =
    let a = c.args in
    got_stores a.s.now _ _ a.t _ c.two_at-n.ensures.0 c.put_token.ensures c.put_two.ensures
