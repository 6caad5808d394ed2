use Rattle.lookup.proofs.Laws.{wire_read}
use Rattle.lookup.proofs.Net.output_wire.Goals as goal

pub returns : goal.returns
returns c = wire_read _ _ _ c.args.self.now.tabled _ c.requires.inputs_bound c.requires.k_bound _ c.output_at-at.ensures.0 _ c.byte_at.ensures
