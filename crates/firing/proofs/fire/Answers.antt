use native.Mathlib.Omega.{arith}
use Rattle.firing.proofs.Choosing.{as_box, as_input, input_done, as_output, output_done}
use Rattle.firing.proofs.fire.Goals as goal

pub fire_box-requires : goal.fire_box-requires
fire_box-requires c = let q = c.requires in record { standing = q.standing; box_ready = as_box _ _ _ _ _ _ q.standing _ _ q.chosen (omega (arith, c.if-i-c.true)) }

pub fire_input-requires : goal.fire_input-requires
fire_input-requires c =
    let q = c.requires in
    record { standing = q.standing; input_ready = as_input _ _ _ _ _ _ q.standing _ _ q.chosen (omega (arith, c.if-i-c.false)) (omega (arith, c.if-i-c-2.true)) }

pub returns-then-i-c-2 : goal.returns-then-i-c-2
returns-then-i-c-2 c =
    let q = c.requires in
    input_done _ _ _ _ _ _ q.standing _ _ q.chosen (omega (arith, c.if-i-c.false)) (omega (arith, c.if-i-c-2.true)) _ c.fire_input.ensures

pub fire_output-requires : goal.fire_output-requires
fire_output-requires c = let q = c.requires in record { standing = q.standing; output_ready = as_output _ _ _ _ _ _ q.standing _ _ q.chosen (omega (arith, c.if-i-c-2.false)) }

pub returns-else-i-c-2 : goal.returns-else-i-c-2
returns-else-i-c-2 c = let q = c.requires in output_done _ _ _ _ _ _ q.standing _ _ q.chosen (omega (arith, c.if-i-c-2.false)) _ c.fire_output.ensures
