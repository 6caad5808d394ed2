use Rattle.std.proofs.Common.{◌∙◌}
use Rattle.shapes.proofs.Laws.{body_fits, body_is, outs_inside}
use Rattle.ports.proofs.Decoded.{outs_are}
use Rattle.ports.proofs.written_by.Goals as goal

pub part-requires : goal.part-requires
part-requires c = outs_inside _ (body_fits _ _ _ _ c.requires c.two_at.ensures.0 c.part-body.ensures.bytes) c.from-ins.result c.from-outs.result (c.from-ins.ensures ∙ c.byte_at.ensures) (c.from-outs.ensures ∙ c.byte_at-2.ensures)

pub returns : goal.returns
returns c = outs_are _ _ _ _ _ _ (body_is _ _ _ _ c.two_at.ensures.0 c.part-body.ensures.bytes) (c.from-ins.ensures ∙ c.byte_at.ensures) (c.from-outs.ensures ∙ c.byte_at-2.ensures) c.part.ensures.bytes
