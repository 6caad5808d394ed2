use native.Mathlib.Omega.{arith}
use Rattle.ends.proofs.Ends.{end_spent, end_left, not_empty, output_marks}
use Rattle.ends.proofs.output_marked.Goals as goal

pub returns-then-room-got : goal.returns-then-room-got
returns-then-room-got c =
    let h = c.requires in
    let m = output_marks _ _ _ _ _ _ h.standing _ h.inputs_bound h.k_bound in
    end_spent _ _ _ _ c.own_count-got.result _ m c.own_count-got.ensures (omega (arith, c.room.ensures.0, c.if-room-got.true))

pub returns : goal.returns
returns c =
    let h = c.requires in
    let m = output_marks _ _ _ _ _ _ h.standing _ h.inputs_bound h.k_bound in
    let free = not_empty _ _ _ _ _ _ h.standing _ _ _ c.output_wire.ensures.0 c.wire_part-part.ensures _ c.count.ensures.0 in
    end_left _ _ _ _ c.own_count-got.result _ m c.own_count-got.ensures _ (omega (arith, c.room.ensures.0, c.if-room-got.false)) free
