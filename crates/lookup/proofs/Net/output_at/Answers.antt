use Rattle.lookup.proofs.Laws.{output_read}
use Rattle.lookup.proofs.Net.output_at.Goals as goal

pub returns : goal.returns
returns c =
    (output_read _ _ _ c.args.self.now.tabled _ c.requires.inputs_bound c.requires.k_bound _ _ c.from.ensures c.entry.ensures.0, c.entry.ensures.1)
