use Rattle.lookup.proofs.Laws.{room_read}
use Rattle.lookup.proofs.Net.room.Goals as goal

pub returns : goal.returns
returns c =
    (room_read _ _ _ c.args.self.now.tabled _ c.requires.inputs_bound c.requires.k_bound _ c.output_at-at.ensures.0 _ c.two_at.ensures.0, c.two_at.ensures.1)
