use Rattle.sights.proofs.Parts.{inside, wire_is}
use Rattle.sights.proofs.wire_part.Goals as goal

pub slice_bounds-result-end : goal.slice_bounds-result-end
slice_bounds-result-end c = inside _ _ _ _ _ _ c.requires.standing _ c.wire_span-span.ensures.inside

pub returns : goal.returns
returns c = wire_is _ _ _ _ _ _ c.requires.standing _ _ c.requires.w_lt_wires c.wire_span-span.ensures
