use native.Mathlib.Omega.{arith}
use Rattle.sights.proofs.Ports.{box_is, in-wire-is}
use Rattle.sights.proofs.in_wire.Goals as goal

pub overflow_add-j : goal.overflow_add-j
overflow_add-j c = omega (arith, (box_is _ _ _ c.args.net.now.tabled _ c.requires.b_lt_boxes).few_ins)

pub returns : goal.returns
returns c = in-wire-is _ _ _ c.args.net.now.tabled _ c.requires.b_lt_boxes _ _ _ c.box_body.ensures c.requires.j_in_bounds c.byte_at.ensures
