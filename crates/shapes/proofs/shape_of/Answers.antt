use Rattle.shapes.proofs.Laws.{body_fits, body_is}
use Rattle.shapes.specs.Shapes.{wires_in}
use Rattle.model.specs.NetworkFile.{box_of}
use Rattle.model.specs.Network.{shape_of}
use Prim.Native.Nat.{ℕ}
use mathlib.Core.List.{List}
use mathlib.Core.Path.{◌∙◌, ap}
use Rattle.shapes.proofs.shape_of.Goals as goal

pub shape_in-requires-clause-body_fits : goal.shape_in-requires-clause-body_fits
shape_in-requires-clause-body_fits c = body_fits _ _ _ _ c.requires.box_fits c.two_at.ensures.0 c.part-body.ensures.bytes

pub returns : goal.returns
returns c =
    let a = c.args in
    c.shape_in.ensures ∙ ap (λ (b : List ℕ). shape_of (wires_in a.net.now a.table.now a.wires) (box_of b)) (body_is _ _ _ _ c.two_at.ensures.0 c.part-body.ensures.bytes)
