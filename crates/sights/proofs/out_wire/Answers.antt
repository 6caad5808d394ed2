use mathlib.Core.Path.{◌∙◌}
use native.Mathlib.Omega.{arith}
use Rattle.sights.proofs.Ports.{box_is, out_wire_is}
use Rattle.sights.proofs.out_wire.Goals as goal

pub overflow_add-ins-2 : goal.overflow_add-ins-2
overflow_add-ins-2 c = omega (arith, (box_is _ _ _ c.args.net.now.tabled _ c.requires.b_lt_boxes).few_outs)

pub returns : goal.returns
returns c =
    out_wire_is _ _ _ c.args.net.now.tabled _ c.requires.b_lt_boxes _ _ _ _ c.box_body-body.ensures (c.from-ins.ensures ∙ c.byte_at.ensures) c.requires.j_in_bounds c.byte_at-2.ensures
