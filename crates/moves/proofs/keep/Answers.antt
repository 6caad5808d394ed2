use native.Mathlib.Omega.{arith}
use Rattle.moves.specs.Moves.{after_keep}
use Rattle.moves.proofs.Laws.{inside, own_asks, own_done}
use Rattle.moves.proofs.Steps.{keep_here}
use Rattle.moves.proofs.keep.Goals as goal

pub slice_bounds-put_var-end : goal.slice_bounds-put_var-end
slice_bounds-put_var-end c = inside _ _ _ _ _ _ c.requires.standing _ c.own_span-span.ensures.inside

pub put_var-requires : goal.put_var-requires
put_var-requires c =
    let h = c.requires in
    let step = keep_here _ _ _ _ _ _ h.standing _ _ _ h.can_keep in
    own_asks _ _ _ _ _ _ h.standing _ _ _ _ _ (omega arith) c.own_span-span.ensures step

pub returns : goal.returns
unfolding after_keep
returns c =
    let h = c.requires in
    let step = keep_here _ _ _ _ _ _ h.standing _ _ _ h.can_keep in
    own_done _ _ _ _ _ _ h.standing _ _ _ _ _ (omega arith) c.own_span-span.ensures step _ c.put_var.ensures (λ i. (c.type_inv.state i).fits)
