use Rattle.taking.proofs.Firing.{output_at_lem, oldest_here, output_takes, output_receives, output_done}
use Rattle.taking.proofs.fire_output.Goals as goal

pub output_wire-w-requires : goal.output_wire-w-requires
output_wire-w-requires c = let h = c.requires in record { inputs_bound = h.output_ready.least; k_bound = h.output_ready.known }

pub wire_part-requires : goal.wire_part-requires
wire_part-requires c = record { standing = c.requires.standing; w_lt_wires = c.output_wire-w.ensures.1 }

pub take-requires : goal.take-requires
take-requires c =
    let q = c.requires in
    let o = output_at_lem _ _ _ _ _ _ q.standing _ _ q.output_ready.least q.output_ready.known c.output_wire-w.ensures in
    record { standing = q.standing; can_take = output_takes _ _ _ _ _ _ q.standing _ _ q.output_ready o }

pub receive-requires : goal.receive-requires
receive-requires c =
    let q = c.requires in
    let o = output_at_lem _ _ _ _ _ _ q.standing _ _ q.output_ready.least q.output_ready.known c.output_wire-w.ensures in
    let x = oldest_here _ _ _ _ _ _ q.standing _ _ _ c.wire_part.ensures c.oldest-t.ensures.0 in
    record { standing = c.take.ensures.stands; can_receive = output_receives _ _ _ _ _ _ q.standing _ _ q.output_ready o _ x _ c.take.ensures }

pub returns : goal.returns
returns c =
    let q = c.requires in
    let o = output_at_lem _ _ _ _ _ _ q.standing _ _ q.output_ready.least q.output_ready.known c.output_wire-w.ensures in
    let x = oldest_here _ _ _ _ _ _ q.standing _ _ _ c.wire_part.ensures c.oldest-t.ensures.0 in
    output_done _ _ _ _ _ _ q.standing _ _ q.output_ready o _ x _ c.take.ensures _ c.receive.ensures
