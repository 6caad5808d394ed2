use native.Mathlib.Omega.{arith}
use Rattle.moves.specs.Moves.{after_put}
use Rattle.moves.proofs.Laws.{inside, wire_asks, wire_done}
use Rattle.moves.proofs.Steps.{put_here}
use Rattle.moves.proofs.put.Goals as goal

pub slice_bounds-push-end : goal.slice_bounds-push-end
slice_bounds-push-end c = inside _ _ _ _ _ _ c.requires.standing _ c.wire_span-span.ensures.inside

pub push-requires : goal.push-requires
push-requires c =
    let h = c.requires in
    let step = put_here _ _ _ _ _ _ h.standing _ _ h.can_put in
    wire_asks _ _ _ _ _ _ h.standing _ _ _ _ _ (omega arith) c.wire_span-span.ensures step

pub returns : goal.returns
unfolding after_put
returns c =
    let h = c.requires in
    let step = put_here _ _ _ _ _ _ h.standing _ _ h.can_put in
    wire_done _ _ _ _ _ _ h.standing _ _ _ _ _ (omega arith) c.wire_span-span.ensures step _ c.push.ensures (λ i. (c.type_inv.state i).fits)
