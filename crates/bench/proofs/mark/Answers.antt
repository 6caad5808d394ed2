use Rattle.opening.specs.Opening.{StateOpened}
use Rattle.bench.proofs.Marks.{mark-refused, mark_open}
use Rattle.bench.proofs.mark.Goals as goal

pub mark_in-requires : goal.mark_in-requires
unfolding StateOpened
mark_in-requires c = c.in-Ok.ensures.opened.standing

pub returns-in-Err : goal.returns-in-Err
unfolding StateOpened
returns-in-Err c = mark-refused _ _ _ _ c.in-Err.ensures.opened c.unmarked.ensures

pub returns-in-Ok : goal.returns-in-Ok
unfolding StateOpened
returns-in-Ok c = mark_open _ _ _ _ c.in-Ok.ensures.opened c.mark_in.ensures
