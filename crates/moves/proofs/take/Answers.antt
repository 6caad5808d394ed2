use native.Mathlib.Omega.{arith}
use Rattle.moves.specs.Moves.{after_take}
use Rattle.moves.proofs.Laws.{inside, wire_asks, wire_done}
use Rattle.moves.proofs.Steps.{take_here}
use Rattle.moves.proofs.take.Goals as goal

pub slice_bounds-pop-end : goal.slice_bounds-pop-end
slice_bounds-pop-end c = inside _ _ _ _ _ _ c.requires.standing _ c.wire_span-span.ensures.inside

pub pop-requires : goal.pop-requires
pop-requires c =
    let h = c.requires in
    let step = take_here _ _ _ _ _ _ h.standing _ h.can_take in
    wire_asks _ _ _ _ _ _ h.standing _ _ _ _ _ (omega arith) c.wire_span-span.ensures step

pub returns : goal.returns
unfolding after_take
returns c =
    let h = c.requires in
    let step = take_here _ _ _ _ _ _ h.standing _ h.can_take in
    wire_done _ _ _ _ _ _ h.standing _ _ _ _ _ (omega arith) c.wire_span-span.ensures step _ c.pop.ensures (λ i. (c.type_inv.state i).fits)
