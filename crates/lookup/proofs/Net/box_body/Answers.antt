use Rattle.lookup.proofs.Tabled.{box_inside}
use Rattle.lookup.proofs.Laws.{in-file, body_is}
use Rattle.lookup.proofs.Net.box_body.Goals as goal

pub body_at-requires : goal.body_at-requires
body_at-requires c = (c.box_at.ensures.1, in-file _ _ _ c.box_at.ensures.0 (box_inside _ _ _ c.args.self.now.tabled _ c.requires))

pub returns : goal.returns
returns c = body_is _ _ _ _ c.box_at.ensures.0 c.body_at.ensures.bytes
