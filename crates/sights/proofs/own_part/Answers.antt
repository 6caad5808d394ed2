use Rattle.sights.proofs.Parts.{inside, own_is}
use Rattle.sights.proofs.own_part.Goals as goal

pub slice_bounds-result-end : goal.slice_bounds-result-end
slice_bounds-result-end c = inside _ _ _ _ _ _ c.requires.standing _ c.own_span-span.ensures.inside

pub returns : goal.returns
returns c = own_is _ _ _ _ _ _ c.requires.standing _ _ c.requires.k_bound c.own_span-span.ensures
