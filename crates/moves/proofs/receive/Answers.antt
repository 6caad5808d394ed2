use native.Mathlib.Omega.{arith}
use Rattle.moves.specs.Moves.{after_receive}
use Rattle.moves.proofs.Laws.{inside, own_asks, own_done}
use Rattle.moves.proofs.Steps.{receive_here}
use Rattle.moves.proofs.receive.Goals as goal

pub slice_bounds-got_push-end : goal.slice_bounds-got_push-end
slice_bounds-got_push-end c = inside _ _ _ _ _ _ c.requires.standing _ c.own_span-span.ensures.inside

pub got_push-requires : goal.got_push-requires
got_push-requires c =
    let h = c.requires in
    let step = receive_here _ _ _ _ _ _ h.standing _ _ h.can_receive in
    own_asks _ _ _ _ _ _ h.standing _ _ _ _ _ (omega arith) c.own_span-span.ensures step

pub returns : goal.returns
unfolding after_receive
returns c =
    let h = c.requires in
    let step = receive_here _ _ _ _ _ _ h.standing _ _ h.can_receive in
    own_done _ _ _ _ _ _ h.standing _ _ _ _ _ (omega arith) c.own_span-span.ensures step _ c.got_push.ensures (λ i. (c.type_inv.state i).fits)
