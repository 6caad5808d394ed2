use Rattle.states.proofs.Fits.{output_said}
use Rattle.states.proofs.output_fits.Goals as goal

pub returns : goal.returns
returns c = output_said _ _ _ c.args.net.now.tabled _ _ _ _ _ _ c.output_wire.ensures.0 c.wire_type-t.ensures.0 c.room-room.ensures.0 c.output_fits.ensures
