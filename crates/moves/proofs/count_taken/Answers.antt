use native.Mathlib.Omega.{arith}
use Rattle.moves.specs.Moves.{after_count}
use Rattle.moves.proofs.Laws.{inside, own_asks, own_done}
use Rattle.moves.proofs.Steps.{count_here}
use Rattle.moves.proofs.count_taken.Goals as goal

pub slice_bounds-count_up-end : goal.slice_bounds-count_up-end
slice_bounds-count_up-end c = inside _ _ _ _ _ _ c.requires.standing _ c.own_span-span.ensures.inside

pub count_up-requires : goal.count_up-requires
count_up-requires c =
    let h = c.requires in
    let step = count_here _ _ _ _ _ _ h.standing _ h.can_count in
    own_asks _ _ _ _ _ _ h.standing _ _ _ _ _ (omega arith) c.own_span-span.ensures step

pub returns : goal.returns
unfolding after_count
returns c =
    let h = c.requires in
    let step = count_here _ _ _ _ _ _ h.standing _ h.can_count in
    own_done _ _ _ _ _ _ h.standing _ _ _ _ _ (omega arith) c.own_span-span.ensures step _ c.count_up.ensures (λ i. (c.type_inv.state i).fits)
