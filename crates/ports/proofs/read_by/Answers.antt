use Rattle.std.proofs.Common.{refl, ◌∙◌}
use Rattle.shapes.proofs.Laws.{body_fits, body_is, ins_inside}
use Rattle.ports.proofs.Decoded.{ins_are}
use Rattle.ports.proofs.read_by.Goals as goal

pub part-requires : goal.part-requires
part-requires c = ins_inside _ (body_fits _ _ _ _ c.requires c.two_at.ensures.0 c.part-body.ensures.bytes) c.from-ins.result _ (c.from-ins.ensures ∙ c.byte_at.ensures) refl

pub returns : goal.returns
returns c = ins_are _ _ _ _ _ (body_is _ _ _ _ c.two_at.ensures.0 c.part-body.ensures.bytes) (c.from-ins.ensures ∙ c.byte_at.ensures) c.part.ensures.bytes
