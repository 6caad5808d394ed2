use Rattle.token_file.proofs.Laws.{type_at_lem}
use Rattle.token_file.proofs.input_type.Goals as goal

pub returns : goal.returns
returns c = (type_at_lem _ _ _ c.args.net.now.tabled _ _ _ c.requires c.input_wire.ensures.0 c.wire_type.ensures.0, c.wire_type.ensures.1)
